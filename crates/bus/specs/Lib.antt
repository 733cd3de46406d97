-- Read in this order, after `agreement`.
pub mod View
pub mod Trial
-- only private contracts cite these
pub mod Begin
pub mod Held
