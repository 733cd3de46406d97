-- A buffer with a text from a place on: one byte, a text after a text, a byte behind a text.
-- Assumes nothing.
use borrow.Rule.Slice.PartMut.{put_mid}
use Rattle.lines.specs.declared.print.Cursor.{Cursor}
use Rattle.lines.specs.Puts.{Puts}
use Prim.Native.Nat.{ℕ, zero, suc, ◌+◌, ◌-◌, ◌/◌, ◌%◌, ◌<◌, ◌≤◌}
use mathlib.Core.List.{List, [], ◌∷◌, ◌++◌}
use mathlib.Core.Path.{◌≡◌, refl, sym, ap, ◌∙◌}
use native.Mathlib.Numerals.{add-one}
use native.Mathlib.Omega.{arith}
use lib.ListN.{length, set, length-append}
use Rattle.lines.specs.Text.{glyph, digits, written}

pub length_digits : (base k n : ℕ) → length (digits base k n) ≡ k
length_digits base zero n = refl
length_digits base (suc k) n =
    length-append (digits base k (n / base)) (glyph (n % base) ∷ [])
    ∙ ap (λ (m : ℕ). m + 1) (length_digits base k (n / base))
    ∙ add-one k

-- nothing is written
pub written_nothing : (out : List ℕ) (at : ℕ) → out ≡ written out at []
written_nothing out zero = refl
written_nothing [] (suc at) = refl
written_nothing (b ∷ bs) (suc at) = ap (λ (l : List ℕ). b ∷ l) (written_nothing bs at)

-- a text that has room
pub written_part : (out : List ℕ) (at n : ℕ) (text : List ℕ) → n ≡ length text → at + n ≤ length out → put_mid at n out text ≡ written out at text
written_part out zero n [] e h = let z : n ≡ 0 = e in rw z refl
written_part [] zero n (x ∷ xs) e h = absurd (omega arith)
written_part (b ∷ bs) zero zero (x ∷ xs) e h = absurd (omega arith)
written_part (b ∷ bs) zero (suc n) (x ∷ xs) e h = ap (λ (l : List ℕ). x ∷ l) (written_part bs 0 n xs (omega arith) (omega arith))
written_part [] (suc at) n text e h = absurd (omega arith)
written_part (b ∷ bs) (suc at) n text e h = ap (λ (l : List ℕ). b ∷ l) (written_part bs at n text e (omega arith))

-- a byte behind a text that is still to be written
pub written_last : (out : List ℕ) (at n b : ℕ) (text : List ℕ) → n ≡ at + length text → n < length out
    → written (set out n b) at text ≡ written out at (text ++ (b ∷ []))
written_last [] at n b text e h = absurd (omega arith)
written_last (x ∷ xs) zero zero b [] e h = refl
written_last (x ∷ xs) zero (suc n) b [] e h = absurd (omega arith)
written_last (x ∷ xs) zero zero b (y ∷ ys) e h = absurd (omega arith)
written_last (x ∷ xs) zero (suc n) b (y ∷ ys) e h = ap (λ (l : List ℕ). y ∷ l) (written_last xs 0 n b ys (omega arith) (omega arith))
written_last (x ∷ xs) (suc at) zero b text e h = absurd (omega arith)
written_last (x ∷ xs) (suc at) (suc n) b text e h = ap (λ (l : List ℕ). x ∷ l) (written_last xs at n b text (omega arith) (omega arith))

-- a text after a text
pub written_append : (out : List ℕ) (at n : ℕ) (s t : List ℕ) → n ≡ at + length s → written (written out at s) n t ≡ written out at (s ++ t)
written_append out zero zero [] t e = refl
written_append out zero (suc n) [] t e = absurd (omega arith)
written_append out zero zero (y ∷ ys) t e = absurd (omega arith)
written_append [] zero (suc n) (y ∷ ys) t e = refl
written_append (x ∷ xs) zero (suc n) (y ∷ ys) t e = ap (λ (l : List ℕ). y ∷ l) (written_append xs 0 n ys t (omega arith))
written_append out (suc at) zero s t e = absurd (omega arith)
written_append [] (suc at) (suc n) s t e = refl
written_append (x ∷ xs) (suc at) (suc n) s t e = ap (λ (l : List ℕ). x ∷ l) (written_append xs at n s t (omega arith))

-- the same, of a buffer that was written in two steps
pub written_then : (out mid end : List ℕ) (at n : ℕ) (s t : List ℕ) → n ≡ at + length s → mid ≡ written out at s
    → end ≡ written mid n t → end ≡ written out at (s ++ t)
written_then out mid end at n s t e em ee = ee ∙ ap (λ (l : List ℕ). written l n t) em ∙ written_append out at n s t e

-- DIGITS: the last one is stored, and the others are left
digits_step : (base l n : ℕ) → 0 < l → digits base l n ≡ digits base (l - 1) (n / base) ++ (glyph (n % base) ∷ [])
digits_step base zero n h = absurd (omega arith)
digits_step base (suc l) n h = let e : suc l - 1 ≡ l = omega arith in rw e

pub digits_stored : (out : List ℕ) (at base l n g : ℕ) → 0 < l → at + l ≤ length out → g ≡ glyph (n % base)
    → written (set out (at + (l - 1)) g) at (digits base (l - 1) (n / base)) ≡ written out at (digits base l n)
digits_stored out at base l n g h r e =
    let others = digits base (l - 1) (n / base) in
    let m : length others ≡ l - 1 = length_digits base (l - 1) (n / base) in
    written_last out at (at + (l - 1)) g others (omega (arith, m)) (omega arith)
    ∙ ap (λ (x : ℕ). written out at (others ++ (x ∷ []))) e
    ∙ ap (written out at) (sym (digits_step base l n h))

-- WHAT A CURSOR WRITES

-- a text after a text
pub puts_then : {a b c : Cursor} {s t : List ℕ} → Puts a b s → Puts b c t → Puts a c (s ++ t)
puts_then {a} {b} {c} {s} {t} p q = record {
  same = q.same ∙ p.same;
  at = omega (arith, p.at, q.at, length-append s t);
  fits = q.fits;
  size = q.size ∙ p.size;
  out = written_then a.out.now b.out.now c.out.now a.at b.at s t p.at p.out q.out;
}

-- a text of which a part is left
pub record PutsLeft (a b : Cursor) (all left : List ℕ) : Type 0 where
  pub same : b.out.ghost_name ≡ a.out.ghost_name
  pub at : b.at + length left ≡ a.at + length all
  pub fits : b.at + length left ≤ length b.out.now
  pub size : length b.out.now ≡ length a.out.now
  pub out : written b.out.now b.at left ≡ written a.out.now a.at all

pub left_start : (a : Cursor) (all : List ℕ) → a.at + length all ≤ length a.out.now → PutsLeft a a all all
left_start a all h = record { same = refl; at = refl; fits = h; size = refl; out = refl }

pub left_room : {a b : Cursor} {all : List ℕ} (s t : List ℕ) → PutsLeft a b all (s ++ t) → b.at + length s ≤ length b.out.now
left_room s t p = omega (arith, p.fits, length-append s t)

pub left_step : {a b c : Cursor} {all s t : List ℕ} → PutsLeft a b all (s ++ t) → Puts b c s → PutsLeft a c all t
left_step {a} {b} {c} {all} {s} {t} p q = record {
  same = q.same ∙ p.same;
  at = omega (arith, p.at, q.at, length-append s t);
  fits = omega (arith, p.fits, q.at, q.size, length-append s t);
  size = q.size ∙ p.size;
  out = ap (λ (l : List ℕ). written l c.at t) q.out ∙ written_append b.out.now b.at c.at s t q.at ∙ p.out;
}

pub left_end : {a b : Cursor} {all : List ℕ} → PutsLeft a b all [] → Puts a b all
left_end {a} {b} {all} p = record {
  same = p.same;
  at = omega (arith, p.at);
  fits = omega (arith, p.fits);
  size = p.size;
  out = written_nothing b.out.now b.at ∙ p.out;
}
