pub mod Faults
pub mod Here
pub mod Laws
pub mod PlanLaws
pub mod Texts
