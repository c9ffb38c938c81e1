pub mod FindingLaws
pub mod PlanLaws
