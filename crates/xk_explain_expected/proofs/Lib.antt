mod Examples
mod TakenLemmas
mod ExpressionsTaken
mod StatementsTaken
mod TextTaken
mod PlacesTaken
