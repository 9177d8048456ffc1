mod DrawLemmas
mod DrilledLemmas
