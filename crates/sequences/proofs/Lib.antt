pub mod ChangeLaws
pub mod CallLaws
pub mod ResetLaws
pub mod DepthLaws
pub mod EndingLaws
