-- The lines that a program prints, and their texts. Assumes nothing.
use Rattle.std.specs.Prelude.{ℕ, List, [], ◌∷◌, ◌++◌, Option, Some, None}
use Rattle.number.specs.Buffer.{put_at, placed}
use Rattle.number.specs.Bytes.{bytes}
use Rattle.number.specs.Text.{number_text, weight_text}
use Rattle.step.specs.declared.Answer.{Answer}
use Rattle.step.specs.declared.Answer.TheVariants as answer
use Rattle.printed.specs.declared.Word.{Word}
use Rattle.printed.specs.declared.Word.TheVariants as word
use Rattle.printed.specs.declared.Field.{Field}
use Rattle.printed.specs.declared.Field.TheVariants.{Says, Counts, Weighs}
use Rattle.printed.specs.declared.Printed.{Printed}
use Rattle.printed.specs.declared.Printed.TheVariants.{Two, Three}

unfoldable pub spelled : Word → List ℕ
spelled word.Answers = bytes "answers"
spelled word.Queue = bytes "queue"
spelled word.Refused = bytes "refused"
spelled word.Text = bytes "text"
spelled word.Dash = bytes "-"
spelled word.Ok = bytes "ok"
spelled word.Yes = bytes "yes"
spelled word.No = bytes "no"
spelled word.None = bytes "none"
spelled word.Got = bytes "got"

unfoldable pub field_text : Field → List ℕ
field_text (Says w) = spelled w
field_text (Counts n) = number_text n
field_text (Weighs v) = weight_text v

-- a field and the byte after it
unfoldable pub ended_text : Field → ℕ → List ℕ
ended_text f b = field_text f ++ (b ∷ [])

-- "one space between fields; every line ends with one LF"
unfoldable pub printed_text : Printed → List ℕ
printed_text (Two a b) = ended_text a 32 ++ ended_text b 10
printed_text (Three a b c) = ended_text a 32 ++ (ended_text b 32 ++ ended_text c 10)

-- "thread and answer of each taken step (`ok` for set and store; a value for get and load; yes or no for swap and put; none or got with
-- a weight for take)"; "rank and the weight .., else rank and `-`"
unfoldable pub answer_line : ℕ → Answer → Printed
answer_line n answer.Dash = Two (Counts n) (Says word.Dash)
answer_line n answer.Ok = Two (Counts n) (Says word.Ok)
answer_line n (answer.Value v) = Two (Counts n) (Weighs v)
answer_line n answer.Yes = Two (Counts n) (Says word.Yes)
answer_line n answer.No = Two (Counts n) (Says word.No)
answer_line n answer.None = Two (Counts n) (Says word.None)
answer_line n (answer.Got w) = Three (Counts n) (Says word.Got) (Weighs w)
answer_line n (answer.Refused k) = Two (Counts n) (Counts k)

-- the text of lines: one after the other
unfoldable pub lines_text : List Printed → List ℕ
lines_text [] = []
lines_text (x ∷ xs) = printed_text x ++ lines_text xs

-- a line put into a buffer after those before it: the place after it, and the buffer; after a line that had no room there is none
abbrev pub put_next : List ℕ → Option ℕ → Printed → Option ℕ
put_next l (Some p) x = put_at l p (printed_text x)
put_next l None x = None

abbrev pub placed_next : List ℕ → Option ℕ → Printed → List ℕ
placed_next l (Some p) x = placed l p (printed_text x)
placed_next l None x = l

-- lines put one after the other, up to the first that has no room: the place after them, and the buffer
pub record Page : Type 0 where
  pub upto : Option ℕ
  pub buffer : List ℕ

abbrev pub page : Option ℕ → List ℕ → Page
page w l = record { upto = w; buffer = l }

unfoldable pub put_lines : Page → List Printed → Page
put_lines b [] = b
put_lines b (x ∷ xs) = put_lines (page (put_next b.buffer b.upto x) (placed_next b.buffer b.upto x)) xs
