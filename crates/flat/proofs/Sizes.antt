-- What `abi` says of a record, an event and an answer is the bytes of their types, by the kit's own layout. Assumes nothing.
use mathlib.Core.Path.{◌≡◌, refl}
use prog.Memory.{size}
use Rattle.flat.specs.Calls.{abi_of}
use Rattle.flat.proofs.FlatRecord.TheLaws as Record
use Rattle.flat.proofs.FlatEvent.TheLaws as Event
use Rattle.flat.proofs.FlatAnswer.TheLaws as Answer

pub record-size : abi_of.rec ≡ size Record.mir
unfolding abi_of
record-size = refl

pub event-size : abi_of.event ≡ size Event.mir
unfolding abi_of
event-size = refl

pub answer-size : abi_of.answer ≡ size Answer.mir
unfolding abi_of
answer-size = refl
