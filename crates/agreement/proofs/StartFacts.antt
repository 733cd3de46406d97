-- What the two boards start with: fresh ends, the words that they send, and the elements that these give.
-- Assumes nothing.
use Prim.Native.Nat.{ℕ, zero, suc, ◌*◌, ◌<◌, ◌≤◌}
use mathlib.Core.Bool.{Bool, true, false, cond, not, ◌||◌}
use mathlib.Core.List.{List, [], ◌∷◌}
use mathlib.Core.Path.{◌≡◌, refl, sym, ap, ◌∙◌, subst}
use native.Mathlib.Omega.{arith}
use lib.Dec.{eqb, ltb}
use lib.ListN.{length, get_or}
use borrow.Author.Tests.{eqb-true, eqb-false, ltb-false, le-ltb}
use Rattle.std.proofs.lemmas.Bool.{cond_both, or_parts}
use Rattle.words.specs.declared.order.BitOrder.{BitOrder}
use Rattle.words.specs.declared.order.BitOrder.TheVariants.{Msb, Lsb}
use Rattle.words.specs.declared.transaction.LpspiError.TheVariants.{FrameSize}
use Rattle.words.specs.declared.width.Width.{Width}
use Rattle.words.specs.declared.width.Width.TheVariants.{U8, U16, U32}
use Rattle.words.specs.Buffer.{dummy, word_count, filled, word_at, pack_words, unpack_words}
use Rattle.words.specs.Command.{frame_accepted, commanded, lsbf_of}
use Rattle.words.specs.Width.{width_bits}
use Rattle.words.specs.Word.{laid}
use Rattle.words.proofs.WordLaws.{Elements}
use Rattle.words.proofs.BufferLaws.{length_filled, holds_one, unpack_pack_words}
use Rattle.words.proofs.LaidLaws.{laid_at, in_place_word}
use Rattle.std.specs.Prelude.{Ok, Err}
use Rattle.sequences.specs.declared.access.RunError.TheVariants.{Driver}
use Rattle.machine.specs.declared.flush.Flush.TheVariants.{Status}
use Rattle.sequences.specs.Driver.{driver_command}
use Rattle.machine.specs.Transfer.{start_transfer, ended_transfer}
use Rattle.transfers.specs.Transfers.{Plan, separate_plan, in_place_plan}
use Rattle.agreement.specs.Start.{Start, element_bits, plan, started, total, frame_words, accepted, unequal, unfit, job}
use Rattle.agreement.specs.End.{fresh_wire, fresh_registers, end, fresh_end}
use Rattle.agreement.specs.Tally.{nothing}
use Rattle.agreement.proofs.EndFacts.{Keeps, own, Good, fresh_core, fresh_base}

-- SEPARATE AND IN PLACE
sends_all : (s : Start) → (plan s).send ≡ frame_words s
sends_all s =
    cond_both s.board.inplace (in_place_plan (element_bits s) s.board.driver s.read)
    (separate_plan (element_bits s) s.board.driver s.read s.write) (λ (p : Plan). p.send ≡ word_count (element_bits s) p.total) (λ _. refl) (λ _. refl)

receives_all : (s : Start) → (plan s).receive ≡ frame_words s
receives_all s =
    cond_both s.board.inplace (in_place_plan (element_bits s) s.board.driver s.read)
    (separate_plan (element_bits s) s.board.driver s.read s.write) (λ (p : Plan). p.receive ≡ word_count (element_bits s) p.total) (λ _. refl) (λ _. refl)

pub read_within : (s : Start) → length s.read ≤ total s
read_within s =
    cond_both s.board.inplace (in_place_plan (element_bits s) s.board.driver s.read)
    (separate_plan (element_bits s) s.board.driver s.read s.write) (λ (p : Plan). length s.read ≤ p.total) (λ _. omega arith) (λ _. omega arith)

-- the words that an end started with are those of its elements
pub own_words : (s : Start) (i : ℕ) → own (job s) i ≡ word_at s.board.driver.order (element_bits s) (total s) (started s) i
own_words s i = by_place s.board.inplace
  where
    by_place : (b : Bool)
        → (cond b (in_place_plan (element_bits s) s.board.driver s.read)
        (separate_plan (element_bits s) s.board.driver s.read s.write)).words [] i
        ≡ word_at s.board.driver.order (element_bits s)
        (cond b (in_place_plan (element_bits s) s.board.driver s.read)
        (separate_plan (element_bits s) s.board.driver s.read s.write)).total
        (cond b s.read s.write) i
    by_place true = refl
    by_place false = refl

-- an element already received over is sent as received; a word behind those received is as it was
pub keeps : (s : Start) → Keeps (job s)
keeps s rs i h =
    cond_both s.board.inplace (in_place_plan (element_bits s) s.board.driver s.read)
    (separate_plan (element_bits s) s.board.driver s.read s.write) (λ (p : Plan). p.words rs i ≡ p.words [] i) (λ _. (in_place_word s.board.driver.order (element_bits s) (length s.read) i rs s.read refl ∙ rw (le-ltb i (length rs) h))) (λ _. refl)

-- FRESH
no_words_lem : (w : Width) (n : ℕ) → n ≡ 0 → word_count (width_bits w) n ≡ 0
no_words_lem U8 n h = omega arith
no_words_lem U16 n h = omega arith
no_words_lem U32 n h = omega arith

positive : (n : ℕ) → (n ≡ 0 → ⊥) → 0 < n
positive zero h = absurd (h refl)
positive (suc n) h = omega arith

some_words : (w : Width) (n : ℕ) → (n ≡ 0 → ⊥) → 0 < word_count (width_bits w) n
some_words U8 n h = let l : 0 < n = positive n h in omega arith
some_words U16 n h = let l : 0 < n = positive n h in omega arith
some_words U32 n h = let l : 0 < n = positive n h in omega arith

pub good_fresh : (s : Start) (n : ℕ) (accepts : Bool) (other : ℕ → ℕ) (m : ℕ) → frame_words s ≡ n → accepted s ≡ accepts
    → Good n accepts (job s) other 0 0 m nothing (fresh_end s)
good_fresh s n accepts other m en ea = by_tests (eqb (total s) 0) (frame_accepted (element_bits s * total s)) refl ea
  where
    command : ℕ
    command = (commanded (λ w. (plan s).command (driver_command s.board.driver w)) (element_bits s * total s)).value

    by_tests : (x y : Bool) → eqb (total s) 0 ≡ x → (x || y) ≡ accepts
        → Good n accepts (job s) other 0 0 m nothing
        (end
        (cond x (ended_transfer s.board.driver (Ok tt))
        (cond y (start_transfer s.board.driver command (plan s).send (plan s).receive)
        (ended_transfer s.board.driver (Err (Driver FrameSize)))))
        Status [] fresh_wire fresh_registers)
    by_tests true y e h =
        let z : 0 ≡ n = sym (no_words_lem s.board.width (total s) (eqb-true (total s) 0 e)) ∙ en in
        record {
          base = fresh_base n accepts (job s) other;
          now = (fresh_core n accepts (job s) other m (ended_transfer s.board.driver (Ok tt)).work (sym h) z z refl refl, z, z);
        }
    by_tests false true e h =
        let l : 0 < n = subst (λ (k : ℕ). 0 < k) en (some_words s.board.width (total s) (eqb-false (total s) 0 e)) in
        record {
          base = fresh_base n accepts (job s) other;
          now = (
            fresh_core n accepts (job s) other m
                (start_transfer s.board.driver command (plan s).send (plan s).receive).work (sym h) (sends_all s ∙ en)
                (receives_all s ∙ en) refl refl,
            refl,
            tt,
            l,
            refl,
            refl,
          );
        }
    by_tests false false e h = record { base = fresh_base n accepts (job s) other; now = sym h }

-- ELEMENTS
filled_at : (d n : ℕ) (xs : List ℕ) (i : ℕ) → i < n → get_or (filled d n xs) i 0 ≡ get_or xs i d
filled_at d zero xs i h = absurd (omega arith)
filled_at d (suc n) [] zero h = refl
filled_at d (suc n) [] (suc i) h = filled_at d n [] i (omega arith)
filled_at d (suc n) (x ∷ xs) zero h = refl
filled_at d (suc n) (x ∷ xs) (suc i) h = filled_at d n xs i (omega arith)

-- a read buffer over which the words of xs were laid holds them, and dummies
pub laid_words : (o : BitOrder) (w : Width) (n : ℕ) (xs buf : List ℕ) → Elements (width_bits w) xs → length buf ≤ n
    → (i : ℕ) → i < length buf
    → get_or (laid (unpack_words o (width_bits w) n (pack_words o (width_bits w) n xs)) buf) i 0 ≡ get_or xs i (dummy (width_bits w))
laid_words o w n xs buf small l i h =
    let k = width_bits w in
    ap (λ (ys : List ℕ). get_or (laid ys buf) i 0) (unpack_pack_words o k n xs (holds_one w) small)
    ∙ laid_at (filled (dummy k) n xs) buf i (omega (arith, length_filled (dummy k) n xs)) h
    ∙ filled_at (dummy k) n xs i (omega arith)

-- BOARDS THAT FIT: the exponents are small, and width, order and total length are equal
pub record Fit (g a : Start) : Type 0 where
  pub gate_small : g.board.exponent ≤ 4
  pub antenna_small : a.board.exponent ≤ 4
  pub width : element_bits g ≡ element_bits a
  pub order : g.board.driver.order ≡ a.board.driver.order
  pub length : total g ≡ total a

pub equal : (m n : ℕ) → unequal m n ≡ false → m ≡ n
equal m n h = by_test (eqb m n) refl h
  where
    by_test : (t : Bool) → eqb m n ≡ t → not t ≡ false → m ≡ n
    by_test true e h = eqb-true m n e
    by_test false e h = let z : ◌≡◌ {A = ℕ} 0 1 = cc in absurd (omega arith)

same_order : (o p : BitOrder) → lsbf_of o ≡ lsbf_of p → o ≡ p
same_order Msb Msb h = refl
same_order Msb Lsb h = absurd (omega arith)
same_order Lsb Msb h = absurd (omega arith)
same_order Lsb Lsb h = refl

pub fit : (g a : Start) → unfit g a ≡ false → Fit g a
fit g a h =
    let order = unequal (lsbf_of g.board.driver.order) (lsbf_of a.board.driver.order) in
    let length = unequal (total g) (total a) in
    let e₁ =
    or_parts (ltb 4 g.board.exponent)
    (ltb 4 a.board.exponent || (unequal (element_bits g) (element_bits a) || (order || length))) h in
    let e₂ = or_parts (ltb 4 a.board.exponent) (unequal (element_bits g) (element_bits a) || (order || length)) e₁.1 in
    let e₃ = or_parts (unequal (element_bits g) (element_bits a)) (order || length) e₂.1 in
    let e₄ = or_parts order length e₃.1 in
    record {
      gate_small = ltb-false 4 g.board.exponent e₁.0;
      antenna_small = ltb-false 4 a.board.exponent e₂.0;
      width = equal (element_bits g) (element_bits a) e₃.0;
      order =
          same_order g.board.driver.order a.board.driver.order
          (equal (lsbf_of g.board.driver.order) (lsbf_of a.board.driver.order) e₄.0);
      length = equal (total g) (total a) e₄.1;
    }
