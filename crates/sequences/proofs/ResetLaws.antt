-- What a whole reset writes back is what it read: each of the eight kept registers is written with the answer of its own read, CCR with DBT
-- and SCKDIV from the driver's cache, and MEN is as CR had it. So of `soft_reset`, of `recover_from_error`, and of the recovery inside a
-- transfer, which go over one table.
-- Assumes nothing.
use Prim.Native.Nat.{ℕ}
use mathlib.Core.Bool.{Bool, true, false, cond, not, ◌&&◌}
use mathlib.Core.List.{List, [], ◌∷◌, ◌++◌, append-nil}
use mathlib.Core.Path.{◌≡◌, refl, sym, ap, ap₂, ◌∙◌}
use mir.Facts.{and_yes}
use lib.Dec.{T, eqb}
use lib.ListN.{get_or}
use Rattle.manual.specs.declared.Cr.TheVariants.{MEN, RST, RTF, RRF}
use Rattle.manual.specs.declared.Field.TheVariants.{Cr}
use Rattle.manual.specs.declared.Register.{Register}
use Rattle.manual.specs.declared.Register.TheVariants.{PARAM, CR, SR, IER, DER, CFGR0, CFGR1, DMR0}
use Rattle.manual.specs.declared.Register.TheVariants.{DMR1, CCR, FCR, FSR, TCR, TDR, RSR, RDR}
use Rattle.manual.specs.Manual.{read_field, set_field}
use Rattle.sequences.specs.declared.access.Access.{Access}
use Rattle.sequences.specs.declared.access.Access.TheVariants.{Read, Write, Done}
use Rattle.std.specs.Prelude.{Ok}
use Rattle.sequences.specs.declared.call.Call.TheVariants.{SoftReset, RecoverFromError}
use Rattle.sequences.specs.declared.driver.Lpspi.{Lpspi}
use Rattle.sequences.specs.declared.sequence.Move.{Move}
use Rattle.sequences.specs.declared.sequence.Move.TheVariants.{Write as WriteMove, End}
use Rattle.sequences.specs.declared.sequence.Sequence.{Sequence}
use Rattle.sequences.specs.Sequence.{slot_of, sequence_start, cached_in, onward, move_access, moved}
use Rattle.sequences.specs.Recovery.{soft_reset, clear_status, recovery_access, recovery_after}
use Rattle.sequences.specs.Status.{cleared, errors}
use Rattle.sequences.specs.Call.{call_access, call_after}

-- SLOTS: different registers are kept in different ones
abbrev registers : List Register
registers = PARAM ∷ CR ∷ SR ∷ IER ∷ DER ∷ CFGR0 ∷ CFGR1 ∷ DMR0 ∷ DMR1 ∷ CCR ∷ FCR ∷ FSR ∷ TCR ∷ TDR ∷ RSR ∷ RDR ∷ []

in_slot : (r : Register) → get_or registers (slot_of r) PARAM ≡ r
in_slot PARAM = refl
in_slot CR = refl
in_slot SR = refl
in_slot IER = refl
in_slot DER = refl
in_slot CFGR0 = refl
in_slot CFGR1 = refl
in_slot DMR0 = refl
in_slot DMR1 = refl
in_slot CCR = refl
in_slot FCR = refl
in_slot FSR = refl
in_slot TCR = refl
in_slot TDR = refl
in_slot RSR = refl
in_slot RDR = refl

pub slots_differ : (r q : Register) → slot_of r ≡ slot_of q → r ≡ q
slots_differ r q e = sym (in_slot r) ∙ ap (λ (n : ℕ). get_or registers n PARAM) e ∙ in_slot q

-- THE ANSWERS that a whole reset reads, in its order: the kept registers; CR before it is reset; while MEN is 1; the first with MEN 0; CR
-- before RST is released, before the FIFOs are cleared, and before MEN is restored
pub record Answers : Type 0 where
  pub ier : ℕ
  pub der : ℕ
  pub cfgr0 : ℕ
  pub cfgr1 : ℕ
  pub dmr0 : ℕ
  pub dmr1 : ℕ
  pub ccr : ℕ
  pub fcr : ℕ
  pub cr : ℕ
  pub reset : ℕ
  pub enabled : List ℕ
  pub disabled : ℕ
  pub release : ℕ
  pub clear : ℕ
  pub restore : ℕ

-- as the sequence is told them; a write is answered 0 (runs `answer_of`)
abbrev before_wait : Answers → List ℕ
before_wait a = a.ier ∷ a.der ∷ a.cfgr0 ∷ a.cfgr1 ∷ a.dmr0 ∷ a.dmr1 ∷ a.ccr ∷ a.fcr ∷ a.cr ∷ a.reset ∷ 0 ∷ []

abbrev after_wait : Answers → List ℕ
after_wait a = a.release ∷ 0 ∷ a.clear ∷ 0 ∷ 0 ∷ 0 ∷ 0 ∷ 0 ∷ 0 ∷ 0 ∷ 0 ∷ 0 ∷ a.restore ∷ 0 ∷ []

abbrev pub told : Answers → List ℕ
told a = before_wait a ++ (a.enabled ++ (a.disabled ∷ after_wait a))

-- MEN is 1 in each of these
abbrev pub still_enabled : List ℕ → Bool
still_enabled [] = true
still_enabled (v ∷ vs) = eqb (read_field (Cr MEN) v) 1 && still_enabled vs

-- its accesses: what is written back is what was read, CCR with DBT and SCKDIV from the cache, MEN as CR had it
abbrev keeps : Lpspi → Answers → List Access
keeps d a =
    Read IER
    ∷ Read DER
    ∷ Read CFGR0
    ∷ Read CFGR1
    ∷ Read DMR0
    ∷ Read DMR1
    ∷ Read CCR
    ∷ Read FCR
    ∷ Read CR
    ∷ Read CR
    ∷ Write CR (set_field (Cr RST) 1 (set_field (Cr MEN) 0 a.reset))
    ∷ []

abbrev waits : List ℕ → List Access
waits [] = []
waits (v ∷ vs) = Read CR ∷ waits vs

abbrev restores : Lpspi → Answers → List Access
restores d a =
    Read CR
    ∷ Write CR (set_field (Cr RST) 0 a.release)
    ∷ Read CR
    ∷ Write CR (set_field (Cr RRF) 1 (set_field (Cr RTF) 1 a.clear))
    ∷ Write IER a.ier
    ∷ Write DER a.der
    ∷ Write CFGR0 a.cfgr0
    ∷ Write CFGR1 a.cfgr1
    ∷ Write DMR0 a.dmr0
    ∷ Write DMR1 a.dmr1
    ∷ Write CCR (cached_in d.cache a.ccr)
    ∷ Write FCR a.fcr
    ∷ Read CR
    ∷ Write CR (set_field (Cr MEN) (read_field (Cr MEN) a.cr) a.restore)
    ∷ []

abbrev pub reset_accesses : Lpspi → Answers → List Access
reset_accesses d a = keeps d a ++ (waits a.enabled ++ (Read CR ∷ restores d a))

-- A MACHINE OVER A SEQUENCE: the sequence after these answers, and what was due before each
abbrev pub answered : (Sequence → ℕ → Sequence) → Sequence → List ℕ → Sequence
answered after s [] = s
answered after s (v ∷ vs) = answered after (after s v) vs

abbrev pub dues : (Sequence → Access) → (Sequence → ℕ → Sequence) → Sequence → List ℕ → List Access
dues due after s [] = []
dues due after s (v ∷ vs) = due s ∷ dues due after (after s v) vs

-- from the driver value d, told these answers, it makes the accesses of the reset, and then this one is due
pub record Resets (due : Sequence → Access) (after : Sequence → ℕ → Sequence) (d : Lpspi) (a : Answers) (following : Access) : Type 0 where
  pub makes : dues due after (sequence_start d) (told a) ≡ reset_accesses d a
  pub ends : due (answered after (sequence_start d) (told a)) ≡ following

-- OVER ANY TABLE that begins with the moves of `soft_reset`
module _ (tail : List Move) (last : Move) where
  abbrev table : ℕ → Move
  table place = get_or (soft_reset ++ tail) place last

  abbrev next : Sequence → ℕ → Sequence
  next s v = moved (table s.place) s v

  module _ (due : Sequence → Access) (accesses : (s : Sequence) → s.oversize ≡ false → due s ≡ move_access (table s.place) s)
      (d : Lpspi) (a : Answers) where
    abbrev waiting : Sequence
    waiting = answered next (sequence_start d) (before_wait a)

    abbrev released : Sequence
    released = onward waiting

    stays : (v : ℕ) (vs : List ℕ) → T (still_enabled (v ∷ vs)) → (next waiting v ≡ waiting) × T (still_enabled vs)
    stays v vs h = by_test (eqb (read_field (Cr MEN) v) 1) h
      where
        by_test : (b : Bool) → T (b && still_enabled vs) → (cond b waiting released ≡ waiting) × T (still_enabled vs)
        by_test true k = (refl, k)
        by_test false k = absurd k

    wait_dues : (vs rest : List ℕ) → T (still_enabled vs) → dues due next waiting (vs ++ rest) ≡ waits vs ++ dues due next waiting rest
    wait_dues [] rest h = refl
    wait_dues (v ∷ vs) rest h =
        let s = stays v vs h in
        ap₂ (λ (x : Access) (xs : List Access). x ∷ xs) (accesses waiting refl)
        (ap (λ (t : Sequence). dues due next t (vs ++ rest)) s.0 ∙ wait_dues vs rest s.1)

    wait_answered : (vs rest : List ℕ) → T (still_enabled vs) → answered next waiting (vs ++ rest) ≡ answered next waiting rest
    wait_answered [] rest h = refl
    wait_answered (v ∷ vs) rest h =
        let s = stays v vs h in
        ap (λ (t : Sequence). answered next t (vs ++ rest)) s.0 ∙ wait_answered vs rest s.1

    goes_on : eqb (read_field (Cr MEN) a.disabled) 1 ≡ false → next waiting a.disabled ≡ released
    goes_on e = ap (λ (b : Bool). cond b waiting released) e

    -- no answer so far was refused
    abbrev accepting : Sequence → List ℕ → Bool
    accepting s [] = true
    accepting s (v ∷ vs) = not s.oversize && accepting (next s v) vs

    by_table : (s : Sequence) (vs : List ℕ) (rest : List ℕ) → T (accepting s vs) → dues due next s (vs ++ rest)
        ≡ dues (λ (x : Sequence). move_access (table x.place) x) next s vs ++ dues due next (answered next s vs) rest
    by_table s [] rest h = refl
    by_table s (v ∷ vs) rest h =
        let b = and_yes (not s.oversize) (accepting (next s v) vs) h in
        ap₂ (λ (x : Access) (xs : List Access). x ∷ xs) (accesses s (is_false s.oversize b.0)) (by_table (next s v) vs rest b.1)
      where
        is_false : (b : Bool) → T (not b) → b ≡ false
        is_false true k = absurd k
        is_false false k = refl

    module _ (still : T (still_enabled a.enabled)) (off : eqb (read_field (Cr MEN) a.disabled) 1 ≡ false) where
      after_makes : dues due next released (after_wait a) ≡ restores d a
      after_makes =
          ap (λ (vs : List ℕ). dues due next released vs) (sym (append-nil (after_wait a)))
          ∙ by_table released (after_wait a) [] tt
          ∙ append-nil (restores d a)

      makes_all : dues due next (sequence_start d) (told a) ≡ reset_accesses d a
      makes_all =
          by_table (sequence_start d) (before_wait a) (a.enabled ++ (a.disabled ∷ after_wait a)) tt
          ∙ ap (λ (xs : List Access). keeps d a ++ xs)
          (wait_dues a.enabled (a.disabled ∷ after_wait a) still
          ∙ ap (λ (xs : List Access). waits a.enabled ++ xs)
          (ap₂ (λ (x : Access) (xs : List Access). x ∷ xs) (accesses waiting refl)
          (ap (λ (s : Sequence). dues due next s (after_wait a)) (goes_on off) ∙ after_makes)))

      at_end : answered next (sequence_start d) (told a) ≡ answered next released (after_wait a)
      at_end =
          wait_answered a.enabled (a.disabled ∷ after_wait a) still
          ∙ ap (λ (s : Sequence). answered next s (after_wait a)) (goes_on off)

      resets : (x : Access) → move_access (table 26) (answered next released (after_wait a)) ≡ x → Resets due next d a x
      resets x e = record { makes = makes_all; ends = ap due at_end ∙ accesses (answered next released (after_wait a)) refl ∙ e }

-- WHAT IS WRITTEN BACK IS WHAT WAS READ: by `soft_reset`, by `recover_from_error`, and by a transfer's recovery, whatever the registers
-- answer
module _ (d : Lpspi) (a : Answers) (still : T (still_enabled a.enabled)) (off : eqb (read_field (Cr MEN) a.disabled) 1 ≡ false) where
  pub soft_reset_restores : Resets (call_access SoftReset) (call_after SoftReset) d a (Done (Ok tt))
  unfolding call_access call_after
  soft_reset_restores = resets [] End (call_access SoftReset) (λ s e. rw e refl) d a still off (Done (Ok tt)) refl

  pub recover_restores : Resets (call_access RecoverFromError) (call_after RecoverFromError) d a (Write SR (cleared errors))
  unfolding call_access call_after
  recover_restores =
      resets (clear_status errors) End (call_access RecoverFromError) (λ s e. rw e refl) d a still off
      (Write SR (cleared errors)) refl

  pub recovery_restores : Resets recovery_access recovery_after d a (Write SR (cleared errors))
  recovery_restores =
      resets (clear_status errors) (WriteMove SR (cleared errors)) recovery_access (λ s e. refl) d a still off
      (Write SR (cleared errors)) refl
