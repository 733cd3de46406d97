-- The entries of the four transfers, for every width: from what `transfer` leaves over FIFO words to what the definition leaves over
-- elements. Assumes nothing.
use Prim.Native.Nat.{ℕ, ◌*◌, ◌≤◌, max}
use mathlib.Core.Bool.{Bool, true, false, cond}
use mathlib.Core.List.{List, []}
use mathlib.Core.Path.{◌≡◌, refl, sym, ap, ap₂, ◌∙◌, subst}
use native.Mathlib.Nat.{zero-min}
use lib.Dec.{eqb}
use lib.ListN.{length, take, replicate}
use denote.Ref.{Bor}
use Rattle.words.specs.declared.order.BitOrder.{BitOrder}
use Rattle.words.specs.declared.transaction.LpspiError.TheVariants.{FrameSize}
use Rattle.words.specs.declared.width.Width.{Width}
use Rattle.words.specs.Word.{laid}
use Rattle.words.specs.Buffer.{word_count, pack_words, unpack_words}
use Rattle.words.specs.Command.{frame_accepted, commanded}
use Rattle.words.specs.Longer.{longer}
use Rattle.words.specs.Width.{width_bits}
use Rattle.words.proofs.BufferLaws.{laid_nothing, holds_one}
use Rattle.sequences.specs.Access.{Ending}
use Rattle.std.specs.Prelude.{Ok, Err}
use Rattle.sequences.specs.declared.access.RunError.TheVariants.{Driver, Limits}
use Rattle.sequences.specs.declared.driver.Lpspi.{Lpspi}
use Rattle.machine.specs.declared.transfer.Transfer.{Transfer}
use Rattle.sequences.specs.Driver.{driver_command}
use Rattle.machine.specs.Transfer.{start_transfer, ended_transfer, due_access, resumed}
use Rattle.runs.specs.declared.drive.Driven.{Driven}
use Rattle.runs.specs.declared.drive.Frame.{Frame}
use Rattle.runs.specs.declared.result.RunResult.{RunResult}
use Rattle.runs.specs.Run.{State, start, run, limits}
use Rattle.runs.specs.Drive.{stored, sent_from, driven_left, driven_by, DrivenLeft, result_of, words_states, words_run}
use Rattle.runs.proofs.RunLaws.{run_halted}
use Rattle.runs.proofs.RunDepends.{run_words}
use Rattle.transfers.specs.declared.begin.Ways.{Ways}
use Rattle.transfers.specs.declared.begin.Ways.TheVariants.{Both, Sends, Receives}
use Rattle.transfers.specs.Transfers.{Plan, begun, transfer_states, transfer_left, transferred, exchange_separate, exchange}
use Rattle.transfers.specs.Transfers.{write_no_read, read_no_write, separate_plan, in_place_plan, write_plan, read_plan}
use Rattle.transfers.specs.Begin.{length_plan, words_transfer}
use Rattle.transfers.proofs.TransferLaws.{longer_length, stored_elements, sent_packed, sent_in_place, accepted_words, blank_at}

-- the total length of two buffers
pub longer_total : {E : Type 0} {r : Bor (List E)} (a b : Bor (List E)) → r ≡ longer a b → length r.now ≡ max (length a.now) (length b.now)
longer_total {E} a b e = ap (λ (y : Bor (List E)). length y.now) e ∙ longer_length a b

-- a transfer that is empty or refused makes no access
still : (words : List ℕ → ℕ → ℕ) (script : List ℕ) (n : ℕ) (d : Lpspi) (e : Ending)
    → run due_access resumed words script n (start (ended_transfer d e)) ≡ start (ended_transfer d e)
unfolding due_access
still words script n d e = run_halted due_access resumed words script n (start (ended_transfer d e)) refl

-- number 5: nothing was done
abbrev refused : Driven
refused = record { ending = Err Limits; spot = record { made = 0; used = 0; received = 0 } }

-- OVER ELEMENTS: the plan p begins as the frame does, and where the frame is accepted it sends the words that the code sends
module _ (x : Width) (d : Lpspi) (ways : Ways) (b : Bool) (p : Plan) (buffer : List ℕ) (budget : ℕ) (script send log olds : List ℕ) where
  abbrev k : ℕ
  k = width_bits x

  abbrev frame : Frame
  frame = record { width = x; total = p.total; inplace = b }

  -- the machine that begins, of two tests
  abbrev begin : Bool → Bool → Transfer
  begin z a =
      cond z (ended_transfer d (Ok tt))
      (cond a (start_transfer d (commanded (λ w. p.command (driver_command d w)) (k * p.total)).value p.send p.receive)
      (ended_transfer d (Err (Driver FrameSize))))

  module _ (w : frame_accepted (k * p.total) ≡ true → (rs : List ℕ) (i : ℕ) → sent_from frame send olds rs i ≡ p.words rs i) where
    same_states : (z a : Bool) → frame_accepted (k * p.total) ≡ a
        → run due_access resumed (sent_from frame send olds) script budget (start (begin z a))
        ≡ run due_access resumed p.words script budget (start (begin z a))
    same_states true a e = still (sent_from frame send olds) script budget d (Ok tt) ∙ sym (still p.words script budget d (Ok tt))
    same_states false true e =
        run_words due_access resumed script (sent_from frame send olds) p.words (w e) budget (start (begin false true))
    same_states false false e =
        still (sent_from frame send olds) script budget d (Err (Driver FrameSize)) ∙ sym (still p.words script budget d (Err (Driver FrameSize)))

  module _ (places : frame_accepted (k * p.total) ≡ true → word_count k p.total ≤ length olds) where
    abbrev Shown : State Transfer → Type 0
    Shown s =
        unpack_words d.order k p.total (take (stored s.received olds) (laid s.received olds))
        ≡ unpack_words d.order k p.total s.received

    none : (t : Transfer) → Shown (start t)
    none t = rw (zero-min (length olds))

    shown : (z a : Bool) → frame_accepted (k * p.total) ≡ a → Shown (run due_access resumed p.words script budget (start (begin z a)))
    shown true a e = subst Shown (sym (still p.words script budget d (Ok tt))) (none (ended_transfer d (Ok tt)))
    shown false true e =
        stored_elements d.order k p.total
        (run due_access resumed p.words script budget (start (begin false true))).received olds (holds_one x) (places e)
    shown false false e = subst Shown (sym (still p.words script budget d (Err (Driver FrameSize)))) (none (ended_transfer d (Err (Driver FrameSize))))

  module _ (begins : begun k d (length_plan k ways p.total) ≡ begun k d p)
      (w : frame_accepted (k * p.total) ≡ true → (rs : List ℕ) (i : ℕ) → sent_from frame send olds rs i ≡ p.words rs i) where
    abbrev coded : State Transfer
    coded = words_states frame script send olds (begun k d (length_plan k ways p.total)) budget

    states : coded ≡ transfer_states k d p script budget
    states =
        ap (λ (t : Transfer). words_states frame script send olds t budget) begins
        ∙ same_states w (eqb p.total 0) (frame_accepted (k * p.total)) refl

    -- `given` is the buffer as the code makes it of what `transfer` left
    module _ (given : DrivenLeft → List ℕ) (kept : given (driven_left refused log olds) ≡ buffer)
        (came : given (driven_by log olds (transfer_states k d p script budget))
        ≡ laid (unpack_words d.order k p.total (transfer_states k d p script budget).received) buffer) where
      left : (full : Bool) → limits budget log ≡ full → (y : DrivenLeft)
          → y ≡ cond full (driven_left refused log olds) (driven_by log olds coded)
          → transfer_left (result_of d y.driven) y.log (given y) ≡ transferred k d p buffer budget script log
      unfolding driven_by
      left true h y e =
          rw h
          (ap (λ (z : DrivenLeft). transfer_left (result_of d z.driven) z.log (given z)) e
          ∙ ap (λ (l : List ℕ). transfer_left (result_of d refused) log l) kept)
      left false h y e =
          rw h
          (ap (λ (z : DrivenLeft). transfer_left (result_of d z.driven) z.log (given z)) (e ∙ ap (driven_by log olds) states)
          ∙ ap
          (λ (l : List ℕ).
          transfer_left (result_of d (driven_by log olds (transfer_states k d p script budget)).driven)
          (driven_by log olds (transfer_states k d p script budget)).log l)
          came)

      pub entry_left : {y : Driven} {log' words' : List ℕ} {r : RunResult}
          → driven_left y log' words' ≡ words_transfer d ways frame budget script send log olds → r ≡ result_of d y
          → transfer_left r log' (given (driven_left y log' words')) ≡ transferred k d p buffer budget script log
      unfolding words_run
      entry_left {y} {log'} {words'} e er =
          ap (λ (q : RunResult). transfer_left q log' (given (driven_left y log' words'))) er
          ∙ left (limits budget log) refl (driven_left y log' words') e

    -- the elements received over the front of the buffer
    pub entry_over : (frame_accepted (k * p.total) ≡ true → word_count k p.total ≤ length olds)
        → {y : Driven} {log' words' : List ℕ} {r : RunResult} {o : BitOrder} {buffer' : List ℕ}
        → driven_left y log' words' ≡ words_transfer d ways frame budget script send log olds → r ≡ result_of d y → o ≡ d.order
        → buffer' ≡ laid (unpack_words o k p.total (take y.spot.received words')) buffer
        → transfer_left r log' buffer' ≡ transferred k d p buffer budget script log
    unfolding driven_by
    entry_over places {y} {log'} {words'} {r} e er eo eb =
        ap (λ (l : List ℕ). transfer_left r log' l)
        (eb ∙ ap (λ (z : BitOrder). laid (unpack_words z k p.total (take y.spot.received words')) buffer) eo)
        ∙ entry_left
        (λ (z : DrivenLeft). laid (unpack_words d.order k p.total (take z.driven.spot.received z.words)) buffer)
        refl
        (ap (λ (l : List ℕ). laid l buffer) (shown places (eqb p.total 0) (frame_accepted (k * p.total)) refl)) e er

-- THE FOUR TRANSFERS: `send` holds the words packed at the start
abbrev zeros : List ℕ
zeros = replicate 128 0

abbrev of : Width → ℕ → Bool → Frame
of x n b = record { width = x; total = n; inplace = b }

-- what was packed, and what is unpacked, at an equal order and total
packed_of : (k : ℕ) {o o' : BitOrder} {n m : ℕ} (xs send : List ℕ) → o ≡ o' → n ≡ m → send ≡ laid (pack_words o k n xs) zeros
    → send ≡ laid (pack_words o' k m xs) zeros
packed_of k xs send eo en es = es ∙ ap₂ (λ (z : BitOrder) (i : ℕ). laid (pack_words z k i xs) zeros) eo en

unpacked_of : (k : ℕ) (o : BitOrder) {n m : ℕ} (ws buf : List ℕ) {buf' : List ℕ} → n ≡ m → buf' ≡ laid (unpack_words o k n ws) buf
    → buf' ≡ laid (unpack_words o k m ws) buf
unpacked_of k o ws buf en eb = eb ∙ ap (λ (i : ℕ). laid (unpack_words o k i ws) buf) en

-- The code's width and total are equal to those of the elements' type and numbers.
module _ (x : Width) (d : Lpspi) (budget : ℕ) (script log : List ℕ) {y : Driven} {log' words' : List ℕ} {r : RunResult}
    (er : r ≡ result_of d y) {o : BitOrder} (eo : o ≡ d.order) (v : Width) (ev : v ≡ x) (n : ℕ) where
  moved_of : (ways : Ways) (b : Bool) (send places : List ℕ) {m : ℕ} → n ≡ m
      → driven_left y log' words' ≡ words_transfer d ways (of v n b) budget script send log places
      → driven_left y log' words' ≡ words_transfer d ways (of x m b) budget script send log places
  moved_of ways b send places en e = e ∙ ap₂ (λ (w : Width) (i : ℕ). words_transfer d ways (of w i b) budget script send log places) ev en

  pub separate_left : (read write : List ℕ) → n ≡ max (length read) (length write) → (send : List ℕ) {read' : List ℕ}
      → send ≡ laid (pack_words o (width_bits x) n write) zeros
      → driven_left y log' words' ≡ words_transfer d Both (of v n false) budget script send log zeros
      → read' ≡ laid (unpack_words o (width_bits x) n (take y.spot.received words')) read
      → transfer_left r log' read' ≡ exchange_separate (width_bits x) d read write budget script log
  separate_left read write en send es e eb =
      let m = max (length read) (length write) in
      entry_over x d Both false (separate_plan (width_bits x) d read write) read budget script send log zeros refl
      (λ a. sent_packed (of x m false) d.order m write zeros (blank_at 128) (accepted_words x m a) send (packed_of (width_bits x) write send eo en es) refl zeros)
      (accepted_words x m) (moved_of Both false send zeros en e) er eo (unpacked_of (width_bits x) o _ read en eb)

  pub in_place_left : (buf : List ℕ) → n ≡ length buf → (send : List ℕ) {buf' : List ℕ} → send ≡ laid (pack_words o (width_bits x) n buf) zeros
      → driven_left y log' words' ≡ words_transfer d Both (of v n true) budget script send log zeros
      → buf' ≡ laid (unpack_words o (width_bits x) n (take y.spot.received words')) buf
      → transfer_left r log' buf' ≡ exchange (width_bits x) d buf budget script log
  in_place_left buf en send es e eb =
      let m = length buf in
      entry_over x d Both true (in_place_plan (width_bits x) d buf) buf budget script send log zeros refl
      (λ a rs i.
      sent_in_place (of x m true) d.order m buf zeros (blank_at 128) (accepted_words x m a) send (packed_of (width_bits x) buf send eo en es) refl refl refl zeros rs i refl)
      (accepted_words x m) (moved_of Both true send zeros en e) er eo (unpacked_of (width_bits x) o _ buf en eb)

  pub write_left : (buf : List ℕ) → n ≡ length buf → (send : List ℕ) → send ≡ laid (pack_words o (width_bits x) n buf) zeros
      → driven_left y log' words' ≡ words_transfer d Sends (of v n false) budget script send log []
      → transfer_left r log' [] ≡ write_no_read (width_bits x) d buf budget script log
  write_left buf en send es e =
      let m = length buf in
      entry_left x d Sends false (write_plan (width_bits x) d buf) [] budget script send log [] refl
      (λ a. sent_packed (of x m false) d.order m buf zeros (blank_at 128) (accepted_words x m a) send (packed_of (width_bits x) buf send eo en es) refl [])
      (λ _. []) refl
      (sym (laid_nothing (unpack_words d.order (width_bits x) m (transfer_states (width_bits x) d (write_plan (width_bits x) d buf) script budget).received)))
      (moved_of Sends false send [] en e) er

  pub read_left : (buf : List ℕ) → n ≡ length buf → {buf' : List ℕ}
      → driven_left y log' words' ≡ words_transfer d Receives (of v n false) budget script [] log zeros
      → buf' ≡ laid (unpack_words o (width_bits x) n (take y.spot.received words')) buf
      → transfer_left r log' buf' ≡ read_no_write (width_bits x) d buf budget script log
  read_left buf en e eb =
      entry_over x d Receives false (read_plan (width_bits x) d buf) buf budget script [] log zeros refl (λ a rs i. refl)
      (accepted_words x (length buf)) (moved_of Receives false [] zeros en e) er eo (unpacked_of (width_bits x) o _ buf en eb)
