-- A step and a clock as the code makes them, from what its parts promise.
-- Assumes nothing.
use Rattle.std.proofs.Common.{ℕ, Bool, true, false, List, [], ◌∷◌, Option, None, Some, ◌≡◌, refl, sym, ap, ap₂, ◌∙◌, slice_get, unwrap_or}
use Rattle.sequences.specs.declared.access.Access.{Access}
use Rattle.sequences.specs.declared.access.Access.TheVariants.{Read, Write, Send, Receive, Done}
use Rattle.machine.specs.declared.flush.Flush.{Flush}
use Rattle.machine.specs.declared.flush.Flush.TheVariants.{Status, Sizes, Counts, Ended}
use Rattle.machine.specs.declared.transfer.Transfer.{Transfer}
use Rattle.machine.specs.Flush.{flush_access}
use Rattle.machine.specs.Transfer.{due_access, resumed}
use Rattle.runs.specs.Run.{answer_of}
use Rattle.agreement.specs.Start.{Job}
use Rattle.agreement.specs.End.{Wire, arrived, front, answer_to, End, end, first_due, end_access, stepped}
use Rattle.agreement.specs.Events.{pair, rewired, clocked_by}
use Rattle.std.proofs.lemmas.Bool.{false≢true}
use Rattle.bus.specs.Held.{flush_next, leaving, replying, made}

-- A STEP

-- what the machine is told is the answer itself
told : (e : ℕ) (busy : Bool) (w : Wire) (g : List ℕ) (a : Access) → answer_of a (answer_to e busy w g a) ≡ answer_to e busy w g a
told e busy w g (Read r) = refl
told e busy w g (Write r v) = refl
told e busy w g (Send i) = refl
told e busy w g (Receive i) = refl
told e busy w g (Done x) = refl

-- an access that writes or moves a word is the transfer's
abbrev moves : Access → Bool
moves (Read r) = false
moves (Write r v) = true
moves (Send i) = true
moves (Receive i) = true
moves (Done x) = false

pub word_due : (t : Transfer) (f : Flush) (b : Access) → moves b ≡ true → end_access t f ≡ b → due_access t ≡ b
word_due t f b m = by_access (due_access t)
  where
    no_word : (f : Flush) → moves (flush_access f) ≡ false
    no_word Status = refl
    no_word Sizes = refl
    no_word Counts = refl
    no_word (Ended x) = refl

    by_access : (a : Access) → first_due a (flush_access f) ≡ b → a ≡ b
    by_access (Read r) h = h
    by_access (Write r v) h = h
    by_access (Send k) h = h
    by_access (Receive k) h = h
    by_access (Done x) h = absurd (false≢true (sym (no_word f) ∙ ap moves h ∙ m))

pub same_end : {t t' : Transfer} {f f' : Flush} {rs rs' : List ℕ} {w w' : Wire} {g g' : List ℕ} → t ≡ t' → f ≡ f' → rs ≡ rs'
    → w ≡ w' → g ≡ g' → end t f rs w g ≡ end t' f' rs' w' g'
same_end a b c d e = cc

-- the end y after the access that was due, and z once both machines are told
pub step_is : (j : Job) (busy : Bool) (x y z : End) (v : ℕ) → v ≡ answer_to j.exponent busy x.wire x.registers (end_access x.transfer x.flush)
    → y ≡ made j (end_access x.transfer x.flush) v x
    → z ≡ end (resumed y.transfer v) (flush_next y.transfer y.flush v) y.received y.wire y.registers
    → z ≡ stepped j busy x
unfolding stepped
step_is j busy x y z v ev ey ez =
    let a = end_access x.transfer x.flush in
    let was : v ≡ answer_of a (answer_to j.exponent busy x.wire x.registers a) =
    ev ∙ sym (told j.exponent busy x.wire x.registers a) in
    ez
    ∙ ap (λ (u : End). end (resumed u.transfer v) (flush_next u.transfer u.flush v) u.received u.wire u.registers) ey
    ∙ ap₂ (λ (n m : ℕ). end (resumed x.transfer n) (flush_next x.transfer x.flush n) (made j a m x).received (made j a m x).wire
    (made j a m x).registers) was ev

-- A CLOCK
first : {v u : ℕ} → ◌≡◌ {A = Option ℕ} (Some v) (Some u) → v ≡ u
first h = ap (λ (o : Option ℕ). unwrap_or o 0) h

module _ (j k : Job) (x y : End) where
  -- nothing if the gate has no word to send
  pub clock_none : (ours theirs : List ℕ) → None ≡ slice_get ours 0 → pair (rewired (leaving ours) x) y ≡ clocked_by j k ours theirs (pair x y)
  unfolding clocked_by
  clock_none [] theirs h = refl
  clock_none (v ∷ ours) theirs h = cc

  -- else its first word, for the antenna's or one that is made up
  pub clock_some : (ours theirs : List ℕ) (v : ℕ) → Some v ≡ slice_get ours 0
      → pair (rewired (λ w. arrived j.exponent (front theirs) (leaving ours w)) x)
      (rewired (λ w. arrived k.exponent v (replying theirs w)) y)
      ≡ clocked_by j k ours theirs (pair x y)
  unfolding clocked_by
  clock_some [] theirs v h = cc
  clock_some (u ∷ ours) [] v h = rw (first h)
  clock_some (u ∷ ours) (t ∷ theirs) v h = rw (first h)
