-- What a host's calls answer: the agent, the log, the plain reader and reasons through numbers. Assumes nothing.
use Rattle.std.specs.Prelude.{ℕ, List, Err, None, Ok, Option, Result, Some}
use Rattle.basics.specs.Choice.{pick}
use Rattle.codes.specs.declared.Call.{Call}
use Rattle.board.specs.Description.{number_of as board_number}
use Rattle.board.specs.Packed as board
use Rattle.board.specs.Packed.{read_of}
use Rattle.board.specs.Numbers.{refusal_of}
use Rattle.board.specs.declared.Board.{Board}
use Rattle.board.specs.declared.Refusal.TheVariants.{ReservedBit}
use Rattle.board_record.specs.Record.{fresh_of}
use Rattle.board_record.specs.declared.Record.{Record}
use Rattle.rules.specs.Decide.{admitted}
use Rattle.rules.specs.Statuses.{number_of as rule_number}
use Rattle.rules.specs.declared.Refusal.TheVariants.{NotWellFormed}
use Rattle.agent.specs.Step as agent
use Rattle.agent.specs.declared.Stepped.{Stepped}
use Rattle.log_record.specs.Packed as packed
use Rattle.log_record.specs.Rules.{number_of as log_number}
use Rattle.log_record.specs.declared.Refusal.TheVariants as log-refusal
use Rattle.log_book.specs.Prepared.{prepared_at}
use Rattle.reader.specs.Starts.{starts_at, powered_at, held_at}
use Rattle.reason.specs.Explained.{explained_of}
use Rattle.reason.specs.declared.Activate.{Activate}
use Rattle.flat.specs.Answers.{event_in, refused_answer, answer_of, logged_in, written_by, read_by, prepared_by, started_by, cpus_by, why_by}
use Rattle.flat.specs.Records.{flat_with, flat_of, board_in, record_in, is_flat, has_flags, zero_record}
use Rattle.flat.specs.declared.FlatAbi.{FlatAbi}
use Rattle.flat.specs.declared.FlatAnswer.{FlatAnswer}
use Rattle.flat.specs.declared.FlatBoard.{FlatBoard}
use Rattle.flat.specs.declared.FlatEvent.{FlatEvent}
use Rattle.flat.specs.declared.FlatFresh.{FlatFresh}
use Rattle.flat.specs.declared.FlatPrepared.{FlatPrepared}
use Rattle.flat.specs.declared.FlatRead.{FlatRead}
use Rattle.flat.specs.declared.FlatRecord.{FlatRecord}
use Rattle.flat.specs.declared.FlatStarted.{FlatStarted}
use Rattle.flat.specs.declared.FlatStepped.{FlatStepped}
use Rattle.flat.specs.declared.FlatCpus.{FlatCpus}
use Rattle.flat.specs.declared.FlatWhy.{FlatWhy}
use Rattle.flat.specs.declared.FlatWritten.{FlatWritten}
use Rattle.board.specs.declared.Refusal.{Refusal}
use Rattle.rules.specs.declared.Event.{Event}

-- ---- the library itself: its ABI number, which rises with every change of a layout or of what a number means, and the bytes of
-- what a host lends and gets
-- (crates/flat/proofs/Sizes.antt shows that these are the bytes of the types)
unfoldable pub abi_of : FlatAbi
abi_of = record { number = 4; rec = 2024; event = 88; answer = 80 }

-- ---- a board description from its parts: 22 for a flag that is neither 0 nor 1, then as its writer says
unfoldable pub described_of : ℕ → FlatBoard → FlatWritten
described_of room b = written_by board_number (pick (has_flags b) (board.put_of room (board_in b)) (Err ReservedBit))

unfoldable pub description_of : List ℕ → FlatBoard → List ℕ
description_of d b = pick (has_flags b) (board.buffer_of d (board_in b)) d

-- ---- a fresh record from a packed board
abbrev pub fresh_by : Result Board Refusal → FlatRecord
fresh_by (Ok b) = flat_of (fresh_of b)
fresh_by (Err x) = zero_record

unfoldable pub fresh_in : List ℕ → FlatFresh
fresh_in s = record { refusal = refusal_of (read_of s); rec = fresh_by (read_of s) }

-- ---- one event: 9 where the numbers are no record's, then as the agent says
unfoldable pub kept_with : FlatRecord → ℕ → FlatStepped
kept_with f n = record { rec = f; answer = refused_answer n }

-- no event changes the board
unfoldable pub through_of : FlatRecord → Stepped → FlatStepped
through_of f s = record { rec = flat_with f.board s.rec; answer = answer_of s.outcome }

-- a kind that is none of the four: 9 and 1 first, as for any event, then 32
unfoldable pub no_event : Record → ℕ → ℕ → ℕ
no_event r n m = admitted rule_number r n m (log_number log-refusal.Unknown)

abbrev pub step_by : Option Event → FlatRecord → ℕ → ℕ → FlatStepped
step_by (Some e) f n m = through_of f (agent.step_of (record_in f) e n m)
step_by None f n m = kept_with f (no_event (record_in f) n m)

unfoldable pub step_of : FlatRecord → FlatEvent → ℕ → ℕ → FlatStepped
step_of f e n m = pick (is_flat f) (step_by (event_in e) f n m) (kept_with f (rule_number NotWellFormed))

abbrev pub entries_by : Option Event → FlatRecord → List ℕ → List ℕ → List ℕ
entries_by (Some e) f entries contexts = agent.entries_of (record_in f) e entries contexts
entries_by None f entries contexts = entries

unfoldable pub entries_of : FlatRecord → FlatEvent → List ℕ → List ℕ → List ℕ
entries_of f e entries contexts = pick (is_flat f) (entries_by (event_in e) f entries contexts) entries

abbrev pub contexts_by : Option Event → FlatRecord → List ℕ → List ℕ → List ℕ
contexts_by (Some e) f entries contexts = agent.contexts_of (record_in f) e entries contexts
contexts_by None f entries contexts = contexts

unfoldable pub contexts_of : FlatRecord → FlatEvent → List ℕ → List ℕ → List ℕ
contexts_of f e entries contexts = pick (is_flat f) (contexts_by (event_in e) f entries contexts) contexts

-- ---- the log record of an answer
unfoldable pub written_of : ℕ → FlatEvent → FlatAnswer → FlatWritten
written_of room e a = written_by log_number (packed.put_of room (logged_in e a))

unfoldable pub buffer_of : List ℕ → FlatEvent → FlatAnswer → List ℕ
buffer_of d e a = packed.buffer_of d (logged_in e a)

-- ---- the log record that bytes open with
unfoldable pub read_in : List ℕ → FlatRead
read_in log = read_by (packed.read_of log)

-- ---- the questions
unfoldable pub prepared_in : List ℕ → ℕ → FlatPrepared
prepared_in log place = prepared_by (prepared_at log place)

unfoldable pub started_in : List ℕ → List ℕ → ℕ → Call → FlatStarted
started_in board log place call = started_by (starts_at board log place call)

unfoldable pub powered_in : List ℕ → ℕ → FlatCpus
powered_in log place = cpus_by (powered_at log place)

unfoldable pub held_in : List ℕ → ℕ → FlatCpus
held_in log place = cpus_by (held_at log place)

unfoldable pub why_in : List ℕ → List ℕ → ℕ → Activate → FlatWhy
why_in board log place a = why_by (explained_of board log place a)
