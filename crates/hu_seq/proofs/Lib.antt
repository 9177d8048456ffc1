pub mod lemmas
mod ReadingLemmas
mod TokensLemmas
mod WriteLemmas
mod CanonicalTokens
mod CanonicalShape
mod CanonicalLemmas
mod PlainLemmas
mod ItemsetLemmas
mod ShapeLemmas
mod SumLemmas
mod FaultLemmas
mod ByItemLemmas
