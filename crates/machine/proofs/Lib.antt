pub mod BoundLaws
pub mod PollLaws
pub mod StartLaws
pub mod SevenLaws
