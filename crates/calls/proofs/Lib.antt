pub mod ClockSetLaws
