pub mod Fronts
pub mod Numbers
pub mod Outcomes
pub mod ValueFronts
pub mod Several
pub mod ReadFronts
