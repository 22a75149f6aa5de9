-- What the reader keeps of the input so far, and what comes next: a function of the bytes, however they are cut into parts.
use Rattle.std.specs.Prelude.{cond, List, [], ◌∷◌, ◌++◌, ℕ, eqb, ℤ, Option, Some, None, Ok, Err}
use Rattle.lines.specs.Reader.{next, empty_in, size_in, id_in}
use Rattle.lines.specs.declared.Line.TheVariants.{Empty}
use Rattle.program.specs.Input.{following}
use Rattle.program.specs.Turns.{Put, Run, run}
use Rattle.program.specs.declared.Input.{Input}
use Rattle.program.specs.declared.Act.{Act}
use Rattle.program.specs.declared.Act.TheVariants.{Go, Insert}
use Rattle.document.specs.Results.{Outcome}
use Rattle.program.specs.Faults.{Ended}
use Rattle.program.specs.declared.Input.TheVariants.{First, Next, Stopped}
use Rattle.program.specs.declared.Fault.TheVariants.{Line, Call}

abbrev pub begin : Input
begin = First Empty

-- ---- one byte, and the end of a line

abbrev pub size_read : Option ℕ → Input
size_read (Some s) = Next Empty 2 s
size_read None = Stopped (Line 1)

abbrev pub id_read : Option ℤ → ℕ → ℕ → Act
id_read (Some z) n s = Insert z n s
id_read None n s = Go (Stopped (Line n))

abbrev pub byte_on : Input → ℕ → Act
byte_on (First l) b = cond (eqb b 10) (Go (size_read (size_in l))) (Go (First (next l b)))
byte_on (Next l n s) b = cond (eqb b 10) (id_read (id_in l) n s) (Go (Next (next l b) n s))
byte_on (Stopped f) b = Go (Stopped f)

abbrev pub no_byte : Input → Act
no_byte (First l) = Go (size_read (size_in l))
no_byte (Next l n s) = cond (empty_in l) (Go (Next l n s)) (id_read (id_in l) n s)
no_byte (Stopped f) = Go (Stopped f)

abbrev pub go_on : Outcome → ℕ → ℕ → Input
go_on (Ok tt) n s = Next Empty (following n) s
go_on (Err c) n s = Stopped (Call c)

abbrev pub settled : Input → Ended
settled (First l) = Err (Line 1)
settled (Next l n s) = Ok s
settled (Stopped f) = Err f

-- ---- bytes in turn, and what they are put into

-- the parts, one after the other
unfoldable pub together : List (List ℕ) → List ℕ
together [] = []
together (p ∷ ps) = p ++ together ps

pub record Fed (X : Type 0) : Type 0 where
  pub at : Input
  pub held : X

abbrev pub fed : {X : Type 0} → Input → X → Fed X
fed i x = record { at = i; held = x }

module _ {X : Type 0} (put : X → ℤ → Put X) where
  abbrev pub perform : X → Act → Fed X
  perform x (Go i) = fed i x
  perform x (Insert z n s) = fed (go_on (put x z).answer n s) (put x z).after

  abbrev pub step : Fed X → ℕ → Fed X
  step f b = perform f.held (byte_on f.at b)

  -- a part of the input
  unfoldable pub feed : Fed X → List ℕ → Fed X
  feed f [] = f
  feed f (b ∷ bs) = feed (step f b) bs

  -- parts in turn
  unfoldable pub feed_parts : Fed X → List (List ℕ) → Fed X
  feed_parts f [] = f
  feed_parts f (p ∷ ps) = feed_parts (feed f p) ps

  -- the input has ended
  abbrev pub finished : Fed X → Run X
  finished f = run (settled (perform f.held (no_byte f.at)).at) (perform f.held (no_byte f.at)).held
