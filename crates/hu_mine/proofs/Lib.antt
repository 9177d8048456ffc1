mod SearchLemmas
mod SizedLemmas
