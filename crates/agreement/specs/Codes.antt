-- Events as bytes: every byte is an event.
-- Assumes nothing.
use Rattle.std.specs.Prelude.{ℕ, ◌%◌, true, false, cond, List, [], ◌∷◌, eqb}
use Rattle.words.specs.declared.transaction.Direction.TheVariants.{Tx, Rx}
use Rattle.agreement.specs.declared.event.Event.{Event}
use Rattle.agreement.specs.declared.event.Event.TheVariants.{Step, Clock, Noise}
use Rattle.agreement.specs.declared.event.Side.TheVariants.{Gate, Antenna}

-- 0 and 1 a step of the gate, 2 and 3 of the antenna, not busy and busy; 4 a clock; 5 and 6 noise at the gate, T and R; 7 and 8 at the
-- antenna
abbrev pub event_of : ℕ → Event
event_of byte =
    let n = byte % 9 in
    cond (eqb n 0) (Step Gate false)
    (cond (eqb n 1) (Step Gate true)
    (cond (eqb n 2) (Step Antenna false)
    (cond (eqb n 3) (Step Antenna true)
    (cond (eqb n 4) Clock
    (cond (eqb n 5) (Noise Gate Tx)
    (cond (eqb n 6) (Noise Gate Rx)
    (cond (eqb n 7) (Noise Antenna Tx) (Noise Antenna Rx))))))))

-- a list of events
abbrev pub events_of : List ℕ → List Event
events_of [] = []
events_of (b ∷ bs) = event_of b ∷ events_of bs
