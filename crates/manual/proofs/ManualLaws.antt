-- The manual's table is sound: every field lies inside its 32-bit register, and two different fields of a register share no bit. So a field
-- that was set is read back, and every other one of its register is as it was.
-- Assumes nothing.
use Prim.Native.Nat.{ℕ, zero, suc, ◌+◌, ◌%◌, ◌^◌, ◌<◌, ◌≤◌}
use mathlib.Core.Bool.{Bool, true, false, cond, ◌&&◌, ◌||◌}
use mathlib.Core.List.{List, [], ◌∷◌}
use mathlib.Core.Path.{◌≡◌, refl, sym, ap, ◌∙◌, subst}
use native.Mathlib.Omega.{arith}
use lib.Ieee.Fits.{and_i}
use lib.ListN.{length, get_or}
use mir.Facts.{and_yes}
use lib.Dec.{T, leb, ltb, eqb, leb→le, ltb→lt, eqb→eq, eqb_refl}
use borrow.Author.Tests.{ltb-true, ltb-false}
use Rattle.manual.specs.declared.Param.TheVariants.{TXFIFO, RXFIFO}
use Rattle.manual.specs.declared.Cr.TheVariants.{MEN, RST, RTF, RRF}
use Rattle.manual.specs.declared.Sr.TheVariants.{TDF, RDF, WCF, FCF, TCF, TEF, REF, DMF, MBF}
use Rattle.manual.specs.declared.Cfgr1.TheVariants.{MASTER, SAMPLE, PCSPOL}
use Rattle.manual.specs.declared.Ccr.TheVariants.{SCKDIV, DBT, PCSSCK, SCKPCS}
use Rattle.manual.specs.declared.Fcr.TheVariants.{TXWATER, RXWATER}
use Rattle.manual.specs.declared.Fsr.TheVariants.{TXCOUNT, RXCOUNT}
use Rattle.manual.specs.declared.Tcr.TheVariants.{FRAMESZ, TXMSK, RXMSK, CONTC, CONT, BYSW, LSBF, PCS, CPHA, CPOL}
use Rattle.manual.specs.declared.Rsr.TheVariants.{SOF, RXEMPTY}
use Rattle.manual.specs.declared.Register.{Register}
use Rattle.manual.specs.declared.Register.TheVariants.{PARAM, CR, SR, IER, DER, CFGR0, CFGR1, DMR0}
use Rattle.manual.specs.declared.Register.TheVariants.{DMR1, CCR, FCR, FSR, TCR, TDR, RSR, RDR}
use Rattle.manual.specs.declared.Field.{Field}
use Rattle.manual.specs.declared.Field.TheVariants.{Param, Cr, Sr, Cfgr1, Ccr, Fcr, Fsr, Tcr, Rsr}
use Rattle.manual.specs.Bits.{get_bits}
use Rattle.manual.specs.Manual.{bits_of, register_of, read_field, set_field, Setting, set_all}
use Rattle.manual.proofs.BitsLaws.{get_set, get_set_below, get_set_above}

either : {P : Type 0} (a b : Bool) → T (a || b) → (T a → P) → (T b → P) → P
either true b h p q = p tt
either false true h p q = q tt
either {P = P} false false h p q = elim h [ ]

-- one of two fields ends where the other begins, or before
abbrev pub apart : Field → Field → Bool
apart f g =
    leb ((bits_of g).position + (bits_of g).width) (bits_of f).position || leb
    ((bits_of f).position + (bits_of f).width) (bits_of g).position

abbrev pub same_bits : Field → Field → Bool
same_bits f g = eqb (bits_of f).position (bits_of g).position && eqb (bits_of f).width (bits_of g).width

-- the fields of a register
abbrev fields_of : Register → List Field
fields_of PARAM = Param TXFIFO ∷ Param RXFIFO ∷ []
fields_of CR = Cr MEN ∷ Cr RST ∷ Cr RTF ∷ Cr RRF ∷ []
fields_of SR = Sr TDF ∷ Sr RDF ∷ Sr WCF ∷ Sr FCF ∷ Sr TCF ∷ Sr TEF ∷ Sr REF ∷ Sr DMF ∷ Sr MBF ∷ []
fields_of IER = []
fields_of DER = []
fields_of CFGR0 = []
fields_of CFGR1 = Cfgr1 MASTER ∷ Cfgr1 SAMPLE ∷ Cfgr1 PCSPOL ∷ []
fields_of DMR0 = []
fields_of DMR1 = []
fields_of CCR = Ccr SCKDIV ∷ Ccr DBT ∷ Ccr PCSSCK ∷ Ccr SCKPCS ∷ []
fields_of FCR = Fcr TXWATER ∷ Fcr RXWATER ∷ []
fields_of FSR = Fsr TXCOUNT ∷ Fsr RXCOUNT ∷ []
fields_of TCR = Tcr FRAMESZ ∷ Tcr TXMSK ∷ Tcr RXMSK ∷ Tcr CONTC ∷ Tcr CONT ∷ Tcr BYSW ∷ Tcr LSBF ∷ Tcr PCS ∷ Tcr CPHA ∷ Tcr CPOL ∷ []
fields_of TDR = []
fields_of RSR = Rsr SOF ∷ Rsr RXEMPTY ∷ []
fields_of RDR = []

-- some field, where a place has none
abbrev nth : ℕ → List Field → Field
nth n fs = get_or fs n (Cr MEN)

abbrev every : (Field → Bool) → List Field → Bool
every p [] = true
every p (f ∷ fs) = p f && every p fs

-- each two of them are apart
abbrev each_apart : List Field → Bool
each_apart [] = true
each_apart (f ∷ fs) = every (apart f) fs && each_apart fs

abbrev in_word : Field → Bool
in_word f = ltb 0 (bits_of f).width && (ltb (bits_of f).width 32 && leb ((bits_of f).position + (bits_of f).width) 32)

-- a row of the table: the field lies inside its register, and stands at this place among the register's fields
record Row (f : Field) : Type 0 where
  inside : T (in_word f)
  place : ℕ
  counted : T (ltb place (length (fields_of (register_of f))))
  stands : nth place (fields_of (register_of f)) ≡ f

row : {f : Field} → T (in_word f) → (n : ℕ) → T (ltb n (length (fields_of (register_of f)))) → nth n (fields_of (register_of f)) ≡ f → Row f
row i n c s = record { inside = i; place = n; counted = c; stands = s }

-- every row of the table, computed
table_sound : (f : Field) → Row f
table_sound (Param TXFIFO) = row tt 0 tt refl
table_sound (Param RXFIFO) = row tt 1 tt refl
table_sound (Cr MEN) = row tt 0 tt refl
table_sound (Cr RST) = row tt 1 tt refl
table_sound (Cr RTF) = row tt 2 tt refl
table_sound (Cr RRF) = row tt 3 tt refl
table_sound (Sr TDF) = row tt 0 tt refl
table_sound (Sr RDF) = row tt 1 tt refl
table_sound (Sr WCF) = row tt 2 tt refl
table_sound (Sr FCF) = row tt 3 tt refl
table_sound (Sr TCF) = row tt 4 tt refl
table_sound (Sr TEF) = row tt 5 tt refl
table_sound (Sr REF) = row tt 6 tt refl
table_sound (Sr DMF) = row tt 7 tt refl
table_sound (Sr MBF) = row tt 8 tt refl
table_sound (Cfgr1 MASTER) = row tt 0 tt refl
table_sound (Cfgr1 SAMPLE) = row tt 1 tt refl
table_sound (Cfgr1 PCSPOL) = row tt 2 tt refl
table_sound (Ccr SCKDIV) = row tt 0 tt refl
table_sound (Ccr DBT) = row tt 1 tt refl
table_sound (Ccr PCSSCK) = row tt 2 tt refl
table_sound (Ccr SCKPCS) = row tt 3 tt refl
table_sound (Fcr TXWATER) = row tt 0 tt refl
table_sound (Fcr RXWATER) = row tt 1 tt refl
table_sound (Fsr TXCOUNT) = row tt 0 tt refl
table_sound (Fsr RXCOUNT) = row tt 1 tt refl
table_sound (Tcr FRAMESZ) = row tt 0 tt refl
table_sound (Tcr TXMSK) = row tt 1 tt refl
table_sound (Tcr RXMSK) = row tt 2 tt refl
table_sound (Tcr CONTC) = row tt 3 tt refl
table_sound (Tcr CONT) = row tt 4 tt refl
table_sound (Tcr BYSW) = row tt 5 tt refl
table_sound (Tcr LSBF) = row tt 6 tt refl
table_sound (Tcr PCS) = row tt 7 tt refl
table_sound (Tcr CPHA) = row tt 8 tt refl
table_sound (Tcr CPOL) = row tt 9 tt refl
table_sound (Rsr SOF) = row tt 0 tt refl
table_sound (Rsr RXEMPTY) = row tt 1 tt refl

-- every pair of fields of a register, computed
pairs_apart : (r : Register) → T (each_apart (fields_of r))
pairs_apart PARAM = tt
pairs_apart CR = tt
pairs_apart SR = tt
pairs_apart IER = tt
pairs_apart DER = tt
pairs_apart CFGR0 = tt
pairs_apart CFGR1 = tt
pairs_apart DMR0 = tt
pairs_apart DMR1 = tt
pairs_apart CCR = tt
pairs_apart FCR = tt
pairs_apart FSR = tt
pairs_apart TCR = tt
pairs_apart TDR = tt
pairs_apart RSR = tt
pairs_apart RDR = tt

-- INSIDE ITS REGISTER
pub fits : (f : Field) → (0 < (bits_of f).width) × ((bits_of f).width < 32) × ((bits_of f).position + (bits_of f).width ≤ 32)
fits f =
    let w =
    and_yes (ltb 0 (bits_of f).width) (ltb (bits_of f).width 32 && leb ((bits_of f).position + (bits_of f).width) 32)
    (table_sound f).inside in
    let l = and_yes (ltb (bits_of f).width 32) (leb ((bits_of f).position + (bits_of f).width) 32) w.1 in
    (ltb→lt 0 (bits_of f).width w.0, ltb→lt (bits_of f).width 32 l.0, leb→le ((bits_of f).position + (bits_of f).width) 32 l.1)

every_nth : (p : Field → Bool) (fs : List Field) (n : ℕ) → T (every p fs) → n < length fs → T (p (nth n fs))
every_nth p [] n h l = absurd (omega arith)
every_nth p (f ∷ fs) zero h l = (and_yes (p f) (every p fs) h).0
every_nth p (f ∷ fs) (suc n) h l = every_nth p fs n (and_yes (p f) (every p fs) h).1 (omega arith)

nth_apart : (fs : List Field) (m n : ℕ) → T (each_apart fs) → m < n → n < length fs → T (apart (nth m fs) (nth n fs))
nth_apart [] m n h l k = absurd (omega arith)
nth_apart (f ∷ fs) zero zero h l k = absurd (omega arith)
nth_apart (f ∷ fs) zero (suc n) h l k = every_nth (apart f) fs n (and_yes (every (apart f) fs) (each_apart fs) h).0 (omega arith)
nth_apart (f ∷ fs) (suc m) zero h l k = absurd (omega arith)
nth_apart (f ∷ fs) (suc m) (suc n) h l k = nth_apart fs m n (and_yes (every (apart f) fs) (each_apart fs) h).1 (omega arith) (omega arith)

apart_swapped : (f g : Field) → T (apart f g) → T (apart g f)
apart_swapped f g =
    swapped (leb ((bits_of g).position + (bits_of g).width) (bits_of f).position)
    (leb ((bits_of f).position + (bits_of f).width) (bits_of g).position)
  where
    swapped : (a b : Bool) → T (a || b) → T (b || a)
    swapped true true h = tt
    swapped true false h = tt
    swapped false true h = tt
    swapped false false h = elim h [ ]

-- two fields of a register: the same one, or apart
module _ (f g : Field) (e : register_of f ≡ register_of g) where
  abbrev fs : List Field
  fs = fields_of (register_of f)

  abbrev m : ℕ
  m = (table_sound f).place

  abbrev n : ℕ
  n = (table_sound g).place

  at_g : nth n fs ≡ g
  at_g = ap (λ (r : Register). nth n (fields_of r)) e ∙ (table_sound g).stands

  below : (i j : ℕ) (x y : Field) → nth i fs ≡ x → nth j fs ≡ y → ltb i j ≡ true → j < length fs → T (apart x y)
  below i j x y ex ey h l =
      subst (λ (z : Field). T (apart x z)) ey
      (subst (λ (z : Field). T (apart z (nth j fs))) ex (nth_apart fs i j (pairs_apart (register_of f)) (ltb-true i j h) l))

  same_or_apart : {P : Type 0} → (f ≡ g → P) → (T (apart f g) → P) → P
  same_or_apart {P} same other = by_place (ltb m n) (ltb n m) refl refl
    where
      by_place : (b c : Bool) → ltb m n ≡ b → ltb n m ≡ c → P
      by_place true c h k =
          other
          (below m n f g (table_sound f).stands at_g h
          (subst (λ (r : Register). n < length (fields_of r)) (sym e)
          (ltb→lt n (length (fields_of (register_of g))) (table_sound g).counted)))
      by_place false true h k =
          other (apart_swapped g f (below n m g f at_g (table_sound f).stands k (ltb→lt m (length fs) (table_sound f).counted)))
      by_place false false h k =
          let l = ltb-false m n h in
          let r = ltb-false n m k in
          let q : m ≡ n = omega arith in
          same (sym (table_sound f).stands ∙ ap (λ (i : ℕ). nth i fs) q ∙ at_g)

-- NO OVERLAP: two different fields of a register share no bit
pub different_apart : (f g : Field) → register_of f ≡ register_of g → (f ≡ g → ⊥) → T (apart f g)
different_apart f g e n = same_or_apart f g e (λ q. absurd (n q)) (λ t. t)

apart_or_same : (f g : Field) → register_of f ≡ register_of g → T (apart f g || same_bits f g)
apart_or_same f g e =
    same_or_apart f g e (λ q. right (apart f g) (same_bits f g) (subst (λ (x : Field). T (same_bits f x)) q (itself f)))
    (λ t. left (apart f g) (same_bits f g) t)
  where
    left : (a b : Bool) → T a → T (a || b)
    left true b h = tt
    left false b h = elim h [ ]

    right : (a b : Bool) → T b → T (a || b)
    right true true h = tt
    right false true h = tt
    right true false h = elim h [ ]
    right false false h = elim h [ ]

    itself : (f : Field) → T (same_bits f f)
    itself f =
        and_i (eqb (bits_of f).position (bits_of f).position) (eqb (bits_of f).width (bits_of f).width)
        (eqb_refl (bits_of f).position) (eqb_refl (bits_of f).width)

-- READ BACK: the value, masked to the field
pub read_set : (f : Field) (v w : ℕ) → read_field f (set_field f v w) ≡ v % 2 ^ (bits_of f).width
read_set f v w = get_set (bits_of f).position (bits_of f).width v w

read_apart : (f g : Field) (v w : ℕ) → T (apart f g) → read_field g (set_field f v w) ≡ read_field g w
read_apart f g v w h =
    either (leb ((bits_of g).position + (bits_of g).width) (bits_of f).position)
    (leb ((bits_of f).position + (bits_of f).width) (bits_of g).position) h
    (λ l. get_set_below (bits_of f).position (bits_of f).width v w (bits_of g).position (bits_of g).width (leb→le _ _ l))
    (λ l. get_set_above (bits_of f).position (bits_of f).width v w (bits_of g).position (bits_of g).width (leb→le _ _ l))

-- OTHERS KEPT: every other field of the register
pub read_set_other : (f g : Field) (v w : ℕ) → register_of f ≡ register_of g → (f ≡ g → ⊥) → read_field g (set_field f v w) ≡ read_field g w
read_set_other f g v w e n = read_apart f g v w (different_apart f g e n)

-- SEVERAL FIELDS SET

-- each setting is of the field g or of one apart from it
abbrev pub clear : Field → List Setting → Bool
clear g [] = true
clear g (s ∷ ss) = (apart s.0 g || same_bits s.0 g) && clear g ss

-- the value that the last of them gave to g, masked to it, or g's value before
abbrev pub found : Field → List Setting → ℕ → ℕ
found g [] w = read_field g w
found g (s ∷ ss) w = cond (apart s.0 g) (found g ss w) (s.1 % 2 ^ (bits_of g).width)

-- READ BACK from all of them
pub read_all : (g : Field) (ss : List Setting) (w : ℕ) → T (clear g ss) → read_field g (set_all ss w) ≡ found g ss w
read_all g [] w h = refl
read_all g (s ∷ ss) w h =
    let b = and_yes (apart s.0 g || same_bits s.0 g) (clear g ss) h in
    let rest = read_all g ss w b.1 in
    choose (apart s.0 g) (same_bits s.0 g) b.0 (λ t. read_apart s.0 g s.1 (set_all ss w) t ∙ rest)
    (λ t. read_same s.0 g s.1 (set_all ss w) t)
  where
    choose : (a e : Bool) → T (a || e) → {x y z : ℕ} → (T a → x ≡ y) → (T e → x ≡ z) → x ≡ cond a y z
    choose true e h p q = p tt
    choose false true h p q = q tt
    choose false false h {y = y} {z = z} p q = elim h [ ]

    read_same : (f g : Field) (v w : ℕ) → T (same_bits f g) → read_field g (set_field f v w) ≡ v % 2 ^ (bits_of g).width
    read_same f g v w t =
        let b = and_yes (eqb (bits_of f).position (bits_of g).position) (eqb (bits_of f).width (bits_of g).width) t in
        rw (eqb→eq (bits_of f).position (bits_of g).position b.0, eqb→eq (bits_of f).width (bits_of g).width b.1)
        (get_set (bits_of g).position (bits_of g).width v w)

-- settings of one register: any field of it reads back as the last of them gave it, or as before
abbrev pub AllOf : Register → List Setting → Type 0
AllOf r [] = Unit {0}
AllOf r (s ∷ ss) = (register_of s.0 ≡ r) × AllOf r ss

all_clear : (g : Field) (r : Register) (ss : List Setting) → register_of g ≡ r → AllOf r ss → T (clear g ss)
all_clear g r [] e h = tt
all_clear g r (s ∷ ss) e h =
    and_i (apart s.0 g || same_bits s.0 g) (clear g ss) (apart_or_same s.0 g (h.0 ∙ sym e)) (all_clear g r ss e h.1)

pub read_register : (g : Field) (r : Register) (ss : List Setting) (w : ℕ) → register_of g ≡ r → AllOf r ss
    → read_field g (set_all ss w) ≡ found g ss w
read_register g r ss w e h = read_all g ss w (all_clear g r ss e h)

-- BITS OUTSIDE: m bits from q up that no setting touches, whether the table has a field there or not
abbrev pub outside : ℕ → ℕ → List Setting → Bool
outside q m [] = true
outside q m (s ∷ ss) =
    (leb (q + m) (bits_of s.0).position || leb ((bits_of s.0).position + (bits_of s.0).width) q) && outside q m ss

pub kept_outside : (q m : ℕ) (ss : List Setting) (w : ℕ) → T (outside q m ss) → get_bits q m (set_all ss w) ≡ get_bits q m w
kept_outside q m [] w h = refl
kept_outside q m (s ∷ ss) w h =
    let p = (bits_of s.0).position in
    let n = (bits_of s.0).width in
    let b = and_yes (leb (q + m) p || leb (p + n) q) (outside q m ss) h in
    either (leb (q + m) p) (leb (p + n) q) b.0
    (λ l. get_set_below p n s.1 (set_all ss w) q m (leb→le _ _ l))
    (λ l. get_set_above p n s.1 (set_all ss w) q m (leb→le _ _ l))
    ∙ kept_outside q m ss w b.1
