-- The four transfers: from what the code does over FIFO words to the definition over elements. The width k is a parameter.
-- Assumes nothing.
use Prim.Native.Nat.{ℕ, zero, suc, ◌*◌, ◌%◌, ◌^◌, ◌<◌, ◌≤◌, max}
use mathlib.Core.Bool.{Bool, true, false, cond}
use mathlib.Core.List.{List}
use mathlib.Core.Path.{◌≡◌, refl, sym, ap, ◌∙◌}
use native.Mathlib.Nat.{mul-zero, mod-one}
use native.Mathlib.Omega.{arith}
use lib.Dec.{ltb, leb}
use lib.ListN.{length, get_or, take, replicate}
use lib.Seq.{take_all}
use borrow.Author.Tests.{lt-ltb, ltb-true, ltb-false, leb-true, leb-false}
use denote.Ref.{Bor}
use Rattle.words.specs.declared.order.BitOrder.{BitOrder}
use Rattle.words.specs.declared.width.Width.{Width}
use Rattle.words.specs.declared.width.Width.TheVariants.{U8, U16, U32}
use Rattle.words.specs.Word.{per_word, laid}
use Rattle.words.specs.Buffer.{word_count, count_at, word_at, pack_words, unpack_words, cut_word}
use Rattle.words.specs.Command.{frame_accepted}
use Rattle.words.specs.Longer.{longer}
use Rattle.words.specs.Width.{width_bits}
use Rattle.words.proofs.BufferLaws.{holds_one}
use Rattle.words.proofs.CommandLaws.{accepted_between}
use Rattle.words.proofs.LaidLaws.{in_place_word, unpack_take, packed_at, laid_at, take_laid, word_past, total_ends}
use Rattle.runs.specs.declared.drive.Frame.{Frame}
use Rattle.runs.specs.Drive.{stored, sent_from}

-- THE TOTAL LENGTH
pub longer_length : {E : Type 0} (r w : Bor (List E)) → length (longer r w).now ≡ max (length r.now) (length w.now)
unfolding longer
longer_length r w = by_test (ltb (length w.now) (length r.now)) refl
  where
    by_test : (b : Bool) → ltb (length w.now) (length r.now) ≡ b → length (cond b r w).now ≡ max (length r.now) (length w.now)
    by_test true e = let l = ltb-true (length w.now) (length r.now) e in omega arith
    by_test false e = let l = ltb-false (length w.now) (length r.now) e in omega arith

-- an accepted frame has at most 128 FIFO words
pub accepted_words : (x : Width) (total : ℕ) → frame_accepted (width_bits x * total) ≡ true → word_count (width_bits x) total ≤ 128
accepted_words U8 total a = let b = accepted_between (8 * total) a in omega arith
accepted_words U16 total a = let b = accepted_between (16 * total) a in omega arith
accepted_words U32 total a = let b = accepted_between (32 * total) a in omega arith

-- THE WORDS THAT ARE STORED give the elements of all words received
pub stored_elements : (o : BitOrder) (k total : ℕ) (rs olds : List ℕ) → 0 < per_word k → word_count k total ≤ length olds
    → unpack_words o k total (take (stored rs olds) (laid rs olds)) ≡ unpack_words o k total rs
stored_elements o k total rs olds more places =
    ap (unpack_words o k total) (take_laid rs olds (stored rs olds) (omega arith) (omega arith))
    ∙ by_test (leb (length rs) (length olds)) refl
  where
    by_test : (b : Bool) → leb (length rs) (length olds) ≡ b → unpack_words o k total (take (stored rs olds) rs) ≡ unpack_words o k total rs
    by_test true e = let l = leb-true (length rs) (length olds) e in ap (unpack_words o k total) (take_all (stored rs olds) rs (omega arith))
    by_test false e = let l = leb-false (length rs) (length olds) e in unpack_take o k total (stored rs olds) rs more (omega arith)

-- THE WORDS THAT ARE SENT
cut_past : (k total i w : ℕ) → total ≤ per_word k * i → cut_word k total i w ≡ 0
cut_past k total i w h =
    let none : count_at k total i ≡ 0 = omega arith in
    ap (λ (c : ℕ). w % 2 ^ (k * c)) none ∙ ap (λ (e : ℕ). w % 2 ^ e) (mul-zero k) ∙ mod-one w

module _ (f : Frame) (o : BitOrder) (total : ℕ) (xs zeros : List ℕ) (blank : (j : ℕ) → get_or zeros j 0 ≡ 0)
    (places : word_count (width_bits f.width) total ≤ length zeros) (send : List ℕ)
    (es : send ≡ laid (pack_words o (width_bits f.width) total xs) zeros) where
  abbrev k : ℕ
  k = width_bits f.width

  packed : (i : ℕ) → get_or send i 0 ≡ word_at o k total xs i
  packed i = ap (λ (l : List ℕ). get_or l i 0) es ∙ packed_at o k total i xs zeros (holds_one f.width) blank places

  -- not in place: the words packed at the start
  pub sent_packed : f.inplace ≡ false → (olds rs : List ℕ) (i : ℕ) → sent_from f send olds rs i ≡ word_at o k total xs i
  sent_packed e olds rs i = rw e (packed i)

  -- in place: over them the words received so far
  pub sent_in_place : f.inplace ≡ true → f.total ≡ total → length xs ≡ total → (olds rs : List ℕ) (i : ℕ) → length olds ≡ length zeros
      → sent_from f send olds rs i ≡ word_at o k total (laid (unpack_words o k total rs) xs) i
  sent_in_place e et ex olds rs i eo = rw (e, et) (by_test (ltb i (stored rs olds)) refl) ∙ sym (in_place_word o k total i rs xs ex)
    where
      past : (b : Bool) → ltb i (length rs) ≡ b → stored rs olds ≤ i
          → word_at o k total xs i ≡ cond b (cut_word k total i (get_or rs i 0)) (word_at o k total xs i)
      past true t m =
          let l = ltb-true i (length rs) t in
          let p = total_ends k total i (holds_one f.width) (omega arith) in
          word_past o k total i xs p ∙ sym (cut_past k total i (get_or rs i 0) p)
      past false t m = refl

      by_test : (b : Bool) → ltb i (stored rs olds) ≡ b
          → cond b (cut_word k total i (get_or (laid rs olds) i 0)) (get_or send i 0)
          ≡ cond (ltb i (length rs)) (cut_word k total i (get_or rs i 0)) (word_at o k total xs i)
      by_test true t =
          let l = ltb-true i (stored rs olds) t in
          rw (lt-ltb i (length rs) (omega arith)) (ap (cut_word k total i) (laid_at rs olds i (omega arith) (omega arith)))
      by_test false t = let l = ltb-false i (stored rs olds) t in packed i ∙ past (ltb i (length rs)) refl l

-- an array of zeros
pub blank_at : (n j : ℕ) → ◌≡◌ {A = ℕ} (get_or (replicate {A = ℕ} n 0) j 0) 0
blank_at zero j = refl
blank_at (suc n) zero = refl
blank_at (suc n) (suc j) = blank_at n j
