pub mod PlanLemmas
mod PictureExamples
