-- The numbers of the refusals, and what an answer is in numbers. Assumes nothing.
use Rattle.std.specs.Prelude.{ℕ, Ok, Err, Result}
use Rattle.model.specs.declared.decline.Decline.{Decline}
use Rattle.model.specs.declared.decline.Decline.TheVariants.{TooLittleMemory, NumberTooHigh, SameRecord, RecordAbsent, RecordAside, AlreadyStands, AlreadyMarked, SheetFull, NotMarked, NotSetAside, OutsideLimits, Circle, Forbidden, MissingByte, BrokenForm, DoesNotHold, WrongLine}

abbrev pub number_of : Decline → ℕ
number_of TooLittleMemory = 1
number_of NumberTooHigh = 2
number_of SameRecord = 3
number_of RecordAbsent = 4
number_of RecordAside = 5
number_of AlreadyStands = 6
number_of AlreadyMarked = 7
number_of SheetFull = 8
number_of NotMarked = 9
number_of NotSetAside = 10
number_of OutsideLimits = 11
number_of (Circle k) = 12
number_of (Forbidden k) = 13
number_of MissingByte = 14
number_of BrokenForm = 15
number_of DoesNotHold = 16
number_of WrongLine = 17

-- how long the ring is that a refusal shows
abbrev pub ring_length : Decline → ℕ
ring_length TooLittleMemory = 0
ring_length NumberTooHigh = 0
ring_length SameRecord = 0
ring_length RecordAbsent = 0
ring_length RecordAside = 0
ring_length AlreadyStands = 0
ring_length AlreadyMarked = 0
ring_length SheetFull = 0
ring_length NotMarked = 0
ring_length NotSetAside = 0
ring_length OutsideLimits = 0
ring_length (Circle k) = k
ring_length (Forbidden k) = k
ring_length MissingByte = 0
ring_length BrokenForm = 0
ring_length DoesNotHold = 0
ring_length WrongLine = 0

-- an answer as a number: 0 where the call is taken, and else the number of its refusal
abbrev pub answer_number : {X : Type 0} → Result X Decline → ℕ
answer_number (Ok x) = 0
answer_number (Err d) = number_of d
