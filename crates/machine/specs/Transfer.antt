-- The machine of a transfer (document 01, Accesses and transfers): transmit poll until ready; TCR; then words. The sending side goes
-- until it must wait or ends, then the receiving side, over again; an error in one ends both.
-- Assumes nothing.
use Rattle.std.specs.Prelude.{ℕ, ◌+◌, Bool, true, false, cond, ◌&&◌, eqb, ltb, Ok, Err}
use Rattle.manual.specs.declared.Register.TheVariants.{TCR}
use Rattle.words.specs.declared.transaction.Direction.{Direction}
use Rattle.words.specs.declared.transaction.Direction.TheVariants.{Tx, Rx}
use Rattle.words.specs.declared.transaction.LpspiError.TheVariants.{Fifo}
use Rattle.sequences.specs.declared.access.Access.{Access}
use Rattle.sequences.specs.declared.access.Access.TheVariants.{Write, Done, Send as SendWord, Receive as ReceiveWord}
use Rattle.sequences.specs.Access.{Ending}
use Rattle.sequences.specs.declared.access.RunError.TheVariants.{Driver, FifoExponent}
use Rattle.sequences.specs.declared.driver.Lpspi.{Lpspi}
use Rattle.machine.specs.declared.poll.Poll.{Poll}
use Rattle.machine.specs.declared.poll.Poll.TheVariants.{Status}
use Rattle.machine.specs.declared.poll.Polled.{Polled}
use Rattle.machine.specs.declared.poll.Polled.TheVariants.{Failed, TooDeep, Next, Ready, Unready}
use Rattle.sequences.specs.declared.sequence.Sequence.{Sequence}
use Rattle.machine.specs.declared.transfer.Stage.{Stage}
use Rattle.machine.specs.declared.transfer.Stage.TheVariants.{Space, Command, Sending, Send, Receiving, Receive, Recovery, Ended}
use Rattle.machine.specs.declared.transfer.Work.{Work}
use Rattle.machine.specs.declared.transfer.Transfer.{Transfer}
use Rattle.machine.specs.Poll.{poll_access, polled}
use Rattle.sequences.specs.Sequence.{sequence_start}
use Rattle.sequences.specs.Recovery.{recovery_access, recovery_after, recovered}

abbrev pub at : Stage → Work → Sequence → Transfer
at p w r = record { phase = p; work = w; reset = r }

-- FIFO words to send and to receive, none of them done
abbrev work : ℕ → ℕ → ℕ → Work
work command send receive =
    record { command = command; send = send; receive = receive; sent = 0; received = 0 }

-- it waits for a place for its command; `reset` is where a recovery would begin
abbrev pub at_start : Sequence → ℕ → ℕ → ℕ → Transfer
at_start reset command send receive = at (Space Status) (work command send receive) reset

abbrev pub start_transfer : Lpspi → ℕ → ℕ → ℕ → Transfer
start_transfer d command send receive = at_start (sequence_start d) command send receive

-- an empty transfer, or a refused one, makes no access
abbrev pub ended_transfer : Lpspi → Ending → Transfer
ended_transfer d e = at (Ended e) (work 0 0 0) (sequence_start d)

-- the sending side goes on while it has words left; then the receiving side; when both have ended, Ok
abbrev pub send_turn : Work → Stage
send_turn w =
    cond (ltb w.sent w.send) (Sending Status) (cond (ltb w.received w.receive) (Receiving Status) (Ended (Ok tt)))

abbrev pub receive_turn : Work → Stage
receive_turn w =
    cond (ltb w.received w.receive) (Receiving Status) (cond (ltb w.sent w.send) (Sending Status) (Ended (Ok tt)))

abbrev pub turn_of : Direction → Work → Stage
turn_of Tx = send_turn
turn_of Rx = receive_turn

-- so many words done
abbrev pub worked : ℕ → ℕ → Work → Work
worked sent received w = record w { sent = sent; received = received }

abbrev pub turn_at : Direction → ℕ → ℕ → Transfer → Transfer
turn_at side sent received t =
    let w = worked sent received t.work in
    at (turn_of side w) w t.reset

-- one more, up to the limit, which no word meets (`BoundLaws`)
abbrev pub counted : ℕ → ℕ → ℕ
counted n limit = cond (ltb n limit) (n + 1) n

abbrev pub one_sent : Work → Work
one_sent w = record w { sent = counted w.sent w.send }

abbrev pub one_received : Work → Work
one_received w = record w { received = counted w.received w.receive }

-- an error before TCR does no recovery
abbrev pub space_by : Polled → Stage
space_by Failed = Ended (Err (Driver (Fifo Tx)))
space_by TooDeep = Ended (Err FifoExponent)
space_by (Next p) = Space p
space_by Ready = Command
space_by Unready = Space Status

-- a later one does; 7 never does ("without recovery"); the side that must wait gives the turn to the other
abbrev pub sending_by : Work → Polled → Stage
sending_by w Failed = Recovery Tx
sending_by w TooDeep = Ended (Err FifoExponent)
sending_by w (Next p) = Sending p
sending_by w Ready = Send
sending_by w Unready = receive_turn w

abbrev pub receiving_by : Work → Polled → Stage
receiving_by w Failed = Recovery Rx
receiving_by w TooDeep = Ended (Err FifoExponent)
receiving_by w (Next p) = Receiving p
receiving_by w Ready = Receive
receiving_by w Unready = send_turn w

abbrev pub after_space : Poll → ℕ → Stage
after_space p v = space_by (polled Tx p v)

abbrev pub after_sending : Poll → Work → ℕ → Stage
after_sending p w v = sending_by w (polled Tx p v)

abbrev pub after_receiving : Poll → Work → ℕ → Stage
after_receiving p w v = receiving_by w (polled Rx p v)

-- the error is answered once the recovery is done
abbrev pub after_recovery : Direction → Sequence → Stage
after_recovery d r = cond (recovered r) (Ended (Err (Driver (Fifo d)))) (Recovery d)

-- THE ACCESS THAT IS DUE
abbrev due_in : Stage → Work → Sequence → Access
due_in (Space p) w r = poll_access p
due_in Command w r = Write TCR w.command
due_in (Sending p) w r = poll_access p
due_in Send w r = SendWord w.sent
due_in (Receiving p) w r = poll_access p
due_in Receive w r = ReceiveWord w.received
due_in (Recovery d) w r = recovery_access r
due_in (Ended e) w r = Done e

unfoldable pub due_access : Transfer → Access
due_access t = due_in t.phase t.work t.reset

-- THE TRANSFER AFTER IT, which was answered v
abbrev resumed_in : Stage → Work → Sequence → ℕ → Transfer
resumed_in (Space p) w r v = at (after_space p v) w r
resumed_in Command w r v = at (send_turn w) w r
resumed_in (Sending p) w r v = at (after_sending p w v) w r
resumed_in Send w r v = at (send_turn (one_sent w)) (one_sent w) r
resumed_in (Receiving p) w r v = at (after_receiving p w v) w r
resumed_in Receive w r v = at (receive_turn (one_received w)) (one_received w) r
resumed_in (Recovery d) w r v = at (after_recovery d (recovery_after r v)) w (recovery_after r v)
resumed_in (Ended e) w r v = at (Ended e) w r

unfoldable pub resumed : Transfer → ℕ → Transfer
resumed t v = resumed_in t.phase t.work t.reset v

-- whether it stands at its start, before the first read of a poll for the command's place, and no word is done. (It does so again after
-- each poll that was not ready.)
abbrev pub starts_in : Stage → Bool
starts_in (Space Status) = true
starts_in p = false

abbrev pub is_at_start : Transfer → Bool
is_at_start t = starts_in t.phase && (eqb t.work.sent 0 && eqb t.work.received 0)
