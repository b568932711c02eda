mod ExpectedLemmas
mod HoldingLemmas
mod TextLemmas
