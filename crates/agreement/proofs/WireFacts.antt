-- What clock and noise do to an end, whatever its phase.
-- Assumes nothing.
use Prim.Native.Nat.{ℕ, suc, ◌+◌, ◌^◌, ◌<◌, ◌≤◌}
use mathlib.Core.Bool.{Bool, true, false, cond}
use mathlib.Core.List.{List, [], ◌∷◌, ◌++◌}
use mathlib.Core.Path.{◌≡◌, refl, ap, sym, ◌∙◌, subst}
use native.Mathlib.Omega.{arith}
use lib.ListN.{length}
use borrow.Author.Tests.{leb-false}
use Rattle.words.specs.declared.transaction.Direction.{Direction}
use Rattle.words.specs.declared.transaction.Direction.TheVariants.{Tx, Rx}
use Rattle.agreement.specs.Start.{Job}
use Rattle.agreement.specs.End.{Item, Wire, queues, raised, full, words_in, past_word, word_gone, arrived, End, end}
use Rattle.agreement.specs.Events.{rewired}
use Rattle.agreement.specs.Tally.{Tally, noted}
use Rattle.agreement.proofs.WordLists.{from, length_snoc, snoc_is, uncons}
use Rattle.agreement.proofs.QueueLaws.{past_words, past_less, past_front, only_words}
use Rattle.agreement.proofs.EndFacts.{own, Core, Now, Base, Good, now_stays}

module _ (n : ℕ) (accepts : Bool) (j : Job) (other : ℕ → ℕ) (c m : ℕ) (τ : Tally) (x : End) where
  abbrev G : ℕ → ℕ → ℕ → Tally → End → Type 0
  G = Good n accepts j other

  -- NOISE
  raised_base : (d : Direction) (t : ℕ) (σ : Tally) (w : Wire) → Base n accepts j other t τ w → τ.flags ≤ σ.flags
      → 0 < σ.flags → σ.lost ≤ σ.flags → σ.made_up ≡ τ.made_up
      → Base n accepts j other t σ (raised d w)
  raised_base Tx t σ w B a b l e = record {
    small = B.small;
    cap_t = B.cap_t;
    cap_r = B.cap_r;
    room = omega (arith, B.room, e);
    tx_is = λ h. B.tx_is (omega (arith, h, e));
    made = omega (arith, B.made, e);
    lost_le = l;
    made_le = omega (arith, B.made_le, e);
    set_t = λ h. b;
    set_r = λ h. b;
  }
  raised_base Rx t σ w B a b l e = record {
    small = B.small;
    cap_t = B.cap_t;
    cap_r = B.cap_r;
    room = omega (arith, B.room, e);
    tx_is = λ h. B.tx_is (omega (arith, h, e));
    made = omega (arith, B.made, e);
    lost_le = l;
    made_le = omega (arith, B.made_le, e);
    set_t = λ h. b;
    set_r = λ h. b;
  }

  pub good_noise : (d : Direction) → G c c m τ x → G c c m (noted false false true τ) (rewired (raised d) x)
  good_noise d g =
      record {
        base = raised_base d c (noted false false true τ) x.wire g.base (omega arith) (omega arith)
            (omega (arith, g.base.lost_le)) refl;
        now = by_direction d;
      }
    where
      same : (w' : Wire) → w'.transmit ≡ x.wire.transmit → w'.receive ≡ x.wire.receive
          → Now n accepts j other x.transfer.phase x.flush c c m (noted false false true τ) x.transfer.work x.received w'
      same w' et er =
          now_stays n accepts j other x.transfer.phase x.flush
          (λ (k : Core n accepts j other c c m τ x.transfer.work x.received x.wire). record {
            yes = k.yes;
            to_send = k.to_send;
            to_receive = k.to_receive;
            taken = k.taken;
            in_eq = omega (arith, k.in_eq, ap length er);
            out_eq = omega (arith, k.out_eq, ap (λ (q : List Item). length (words_in q)) et);
            most = k.most;
            first = rw et k.first;
            unsent = rw et k.unsent;
            shallow = k.shallow;
            rx_is = λ h h'. subst (λ (l : List ℕ). l ≡ from other (length x.received) (length l)) (er⁻¹) (k.rx_is h h');
            got_is = k.got_is;
          })
          (λ k b z. let l = b z in omega (arith, l, ap length et)) (omega (arith, ap length et)) (omega (arith, ap length er))
          (omega arith) g.now
        where
          er⁻¹ : x.wire.receive ≡ w'.receive
          er⁻¹ = cc

      by_direction : (d : Direction)
          → Now n accepts j other x.transfer.phase x.flush c c m (noted false false true τ) x.transfer.work
          x.received (raised d x.wire)
      by_direction Tx = same (raised Tx x.wire) refl refl
      by_direction Rx = same (raised Rx x.wire) refl refl

  -- THE FIRST WORD of the transmit queue goes, and the command before it
  pub good_sent : (v : ℕ) (words : List ℕ) → words_in x.wire.transmit ≡ v ∷ words → c < n → G c c m τ x
      → G (suc c) c m τ (rewired word_gone x)
  good_sent v words e l g =
      let B = g.base in
      let q = x.wire.transmit in
      let z : length (words_in q) ≡ suc (length words) = ap length e in
      let left : words_in (past_word q) ≡ words = past_words q v words e in
      let fewer = past_less q in
      record {
        base = record {
          small = l;
          cap_t = omega (arith, B.cap_t, fewer);
          cap_r = B.cap_r;
          room = omega (arith, B.room, z, ap length left);
          tx_is = λ h.
              rw left (uncons (own j) c v words (subst (λ (q : List ℕ). q ≡ from (own j) c (length q)) e (B.tx_is h))).1;
          made = omega (arith, B.made);
          lost_le = B.lost_le;
          made_le = B.made_le;
          set_t = B.set_t;
          set_r = B.set_r;
        };
        now =
            now_stays n accepts j other x.transfer.phase x.flush
            (λ (k : Core n accepts j other c c m τ x.transfer.work x.received x.wire). record {
              yes = k.yes;
              to_send = k.to_send;
              to_receive = k.to_receive;
              taken = k.taken;
              in_eq = k.in_eq;
              out_eq = omega (arith, k.out_eq, z, ap length left);
              most = k.most;
              first = only_words (past_word q) (ap length left ∙ sym (past_front q v words k.first e));
              unsent = λ h. absurd (omega (arith, h, ap length left, past_front q v words k.first e));
              shallow = k.shallow;
              rx_is = k.rx_is;
              got_is = k.got_is;
            })
            (λ k b h. absurd (omega (arith, h, k.out_eq, z, B.made))) fewer (omega arith) (omega arith) g.now;
      }

  -- THERE IS NONE: one is made up; a command stays
  pub good_made_up : words_in x.wire.transmit ≡ [] → c < n → G c c m τ x
      → G (suc c) c m (noted false true false τ) (rewired (raised Tx) x)
  good_made_up e l g =
      let B = g.base in
      let z : length (words_in x.wire.transmit) ≡ 0 = ap length e in
      record {
        base = record {
          small = l;
          cap_t = B.cap_t;
          cap_r = B.cap_r;
          room = omega (arith, B.room);
          tx_is = λ h. absurd (omega (arith, h));
          made = omega (arith, B.made);
          lost_le = omega (arith, B.lost_le);
          made_le = omega (arith, B.made_le);
          set_t = λ h. omega arith;
          set_r = λ h. omega arith;
        };
        now =
            now_stays n accepts j other x.transfer.phase x.flush
            (λ (k : Core n accepts j other c c m τ x.transfer.work x.received x.wire). record {
              yes = k.yes;
              to_send = k.to_send;
              to_receive = k.to_receive;
              taken = k.taken;
              in_eq = k.in_eq;
              out_eq = omega (arith, k.out_eq);
              most = k.most;
              first = k.first;
              unsent = k.unsent;
              shallow = k.shallow;
              rx_is = k.rx_is;
              got_is = k.got_is;
            })
            (λ k b. b) (omega arith) (omega arith) (omega arith) g.now;
      }

  -- A WORD ARRIVES, or is lost
  pub good_arrived : (v m' : ℕ) → m ≤ m' → (m' ≡ 0 → v ≡ other c) → G (suc c) c m τ x
      → G (suc c) (suc c) m' (noted (full j.exponent x.wire.receive) false false τ) (rewired (arrived j.exponent v) x)
  good_arrived v m' le h g = by_room (full j.exponent x.wire.receive) refl
    where
      by_room : (y : Bool) → full j.exponent x.wire.receive ≡ y
          → G (suc c) (suc c) m' (noted y false false τ)
          (end x.transfer x.flush x.received
          (cond y (raised Rx x.wire) (queues x.wire.transmit (x.wire.receive ++ (v ∷ [])) x.wire)) x.registers)
      by_room true e = let B = g.base in record {
        base = record {
          small = B.small;
          cap_t = B.cap_t;
          cap_r = B.cap_r;
          room = B.room;
          tx_is = B.tx_is;
          made = B.made;
          lost_le = omega (arith, B.lost_le);
          made_le = omega (arith, B.made_le);
          set_t = λ h. omega arith;
          set_r = λ h. omega arith;
        };
        now =
            now_stays n accepts j other x.transfer.phase x.flush
            (λ (k : Core n accepts j other (suc c) c m τ x.transfer.work x.received x.wire). record {
              yes = k.yes;
              to_send = k.to_send;
              to_receive = k.to_receive;
              taken = k.taken;
              in_eq = omega (arith, k.in_eq);
              out_eq = k.out_eq;
              most = k.most;
              first = k.first;
              unsent = k.unsent;
              shallow = k.shallow;
              rx_is = λ o. absurd (omega (arith, o));
              got_is = λ o. absurd (omega (arith, o));
            })
            (λ k b. b) (omega arith) (omega arith) (omega arith) g.now;
      }
      by_room false e =
          let B = g.base in
          let z = length_snoc x.wire.receive v in
          record {
            base = record {
              small = B.small;
              cap_t = B.cap_t;
              cap_r = omega (arith, z, leb-false (2 ^ j.exponent) (length x.wire.receive) e);
              room = B.room;
              tx_is = B.tx_is;
              made = B.made;
              lost_le = B.lost_le;
              made_le = B.made_le;
              set_t = B.set_t;
              set_r = B.set_r;
            };
            now =
                now_stays n accepts j other x.transfer.phase x.flush
                (λ (k : Core n accepts j other (suc c) c m τ x.transfer.work x.received x.wire). record {
                  yes = k.yes;
                  to_send = k.to_send;
                  to_receive = k.to_receive;
                  taken = k.taken;
                  in_eq = omega (arith, k.in_eq, z);
                  out_eq = k.out_eq;
                  most = k.most;
                  first = k.first;
                  unsent = k.unsent;
                  shallow = k.shallow;
                  rx_is = λ o o'.
                      snoc_is other (length x.received) x.wire.receive v (k.rx_is o (omega (arith, o')))
                      (h o' ∙ ap other (let i : c ≡ length x.received + length x.wire.receive = omega (arith, k.in_eq, o) in i));
                  got_is = λ o o'. k.got_is o (omega (arith, o'));
                })
                (λ k b. b) (omega arith) (omega (arith, z)) (omega arith) g.now;
          }
