-- The text of a request that an administrator writes, and the answer that the reader gives of it.
use Rattle.chars.specs.declared.Refusal.{Refusal}
use Rattle.std.specs.Prelude.{ℕ, zero, suc, ◌+◌, ◌/◌, ◌%◌, ◌≤◌, ◌≡◌, Bool, true, ◌&&◌, cond, List, [], ◌∷◌, ◌++◌, eqb, ltb, length, get_or, Result, Err}
use Rattle.std.proofs.lemmas.List.Edits.{sets}
use Rattle.chars.specs.Words.{bytes, line}
use Rattle.chars.specs.Chars.{is_code}
use Rattle.clock.specs.Clock.{minutes_of_day, hhmm_of}
use Rattle.codes.specs.Codes.{short_end, short_text, long_text, spelled}
use Rattle.codes.specs.declared.Code.{Code}
use Rattle.text_put.specs.Digits.{digits_of}
use Rattle.response_write.specs.Texts.{written, after}
use Rattle.text_scan.specs.Scan.{ten}
use Rattle.request_read.specs.declared.terms.Activation.{Activation}
use Rattle.request_read.specs.declared.terms.Activation.TheVariants.{AtOnce, Minute}
use Rattle.request_read.specs.whole.Request.{request_at}
use Rattle.request_read.specs.declared.whole.Outcome.{Outcome}
use Rattle.request_read.specs.declared.whole.Outcome.TheVariants.{Settlement, Recall, Refused}
use Rattle.request_write.specs.declared.Payable.{Payable}
use Rattle.request_write.specs.declared.Side.{Side}
use Rattle.request_write.specs.declared.Side.TheVariants.{Credit, Debit}
use Rattle.request_write.specs.declared.Given.{Given}
use Rattle.request_write.specs.declared.Given.TheVariants.{Nothing, Name, SubType, Numbers, Date, Time, Four, CreditSide, DebitSide, Amount, Count}
use Rattle.request_write.specs.declared.Order.{Order}

-- a request is made in so many bytes: who writes at a place has room there for the most that it writes
abbrev pub room : ℕ
room = 2048

-- a value that its field cannot hold is left out, and the reader breaks there
abbrev pub held : Bool → List ℕ → List ℕ
held b text = cond b text []

-- just k digits
unfoldable pub fixed : ℕ → ℕ → List ℕ
fixed k v = held (ltb v (ten k)) (digits_of k v)

-- the number of decimal digits, at most one more than the first number
unfoldable pub width_on : ℕ → ℕ → ℕ
width_on zero v = 1
width_on (suc f) v = cond (ltb v 10) 1 (suc (width_on f (v / 10)))

unfoldable pub width_of : ℕ → ℕ
width_of v = width_on 9 v

-- all the bytes of a list are of A-Z 0-9 up to the first zero, and all after it are zero
unfoldable pub blank : List ℕ → Bool
blank [] = true
blank (x ∷ l) = eqb x 0 && blank l

unfoldable pub proper : List ℕ → Bool
proper [] = true
proper (x ∷ l) = cond (is_code x) (proper l) (blank (x ∷ l))

-- a reference or a BIN: of A-Z 0-9
unfoldable pub name_text : Code → List ℕ
name_text c = held (proper (spelled c)) (long_text c)

-- a stream, a bank or four letters
unfoldable pub four_text : ℕ → List ℕ
four_text v = held (ltb v short_end) (short_text v)

-- "nn/nn: number, count"
unfoldable pub numbers_text : ℕ → ℕ → List ℕ
numbers_text n m = fixed 2 n ++ (bytes "/" ++ fixed 2 m)

-- "activation HHMM, 00 to 23 and 00 to 59"
unfoldable pub time_text : ℕ → List ℕ
time_text m = held (ltb m minutes_of_day) (digits_of 4 (hhmm_of m))

-- "We write an amount with no needless leading zero and two digits after the comma."
unfoldable pub amount_text : ℕ → List ℕ
amount_text c =
    held (ltb c 1000000000000)
    (bytes "AUD" ++ (digits_of (width_of (c / 100)) (c / 100) ++ (bytes "," ++ digits_of 2 (c % 100))))

-- "1 or 2 digits, no leading zero"
unfoldable pub count_text : ℕ → List ℕ
count_text n = held (ltb n 100) (digits_of (width_of n) n)

abbrev pub value_text : Given → List ℕ
value_text Nothing = []
value_text (Name c) = name_text c
value_text (SubType v) = fixed 3 v
value_text (Numbers n m) = numbers_text n m
value_text (Date v) = fixed 6 v
value_text (Time m) = time_text m
value_text (Four v) = four_text v
value_text CreditSide = bytes "CR"
value_text DebitSide = bytes "DR"
value_text (Amount c) = amount_text c
value_text (Count n) = count_text n

unfoldable pub line_text : List ℕ → Given → List ℕ
line_text tag given = line tag (value_text given)

-- 20, 12, 77E, 22A and 119
unfoldable pub head_text : Order → List ℕ
head_text o =
    (line_text (bytes ":20:") (Name o.reference) ++ line_text (bytes ":12:") (SubType o.subtype))
    ++ ((line_text (bytes ":77E:") Nothing ++ line_text (bytes ":22A:") (Four o.stream))
    ++ line_text (bytes ":119:") (Name o.bin))

-- "the line may be missing"
abbrev pub activation_text : Activation → List ℕ
activation_text AtOnce = []
activation_text (Minute m) = line_text (bytes ":175:") (Time m)

-- 16A, 171 and 175
unfoldable pub terms_text : Order → List ℕ
terms_text o =
    (line_text (bytes ":16A:") (Numbers o.number o.count) ++ line_text (bytes ":171:") (Date o.date))
    ++ activation_text o.activation

-- "127, 32B, 113, 102: one payment"; "113 stands after DR and never after CR"
unfoldable pub payment_of : Side → ℕ → ℕ → List ℕ
payment_of Credit cents bank =
    (line_text (bytes ":127:") CreditSide ++ line_text (bytes ":32B:") (Amount cents)) ++ line_text (bytes ":102:") (Four bank)
payment_of (Debit letters) cents bank =
    (line_text (bytes ":127:") DebitSide ++ line_text (bytes ":32B:") (Amount cents))
    ++ (line_text (bytes ":113:") (Four letters) ++ line_text (bytes ":102:") (Four bank))

abbrev pub payment_text : Payable → List ℕ
payment_text p = payment_of p.side p.cents p.bank

abbrev pub no_payable : Payable
no_payable = record { side = Credit; cents = 0; bank = 0 }

-- the first n payments; the order has ten places
unfoldable pub payments_to : ℕ → List Payable → List ℕ
payments_to zero ps = []
payments_to (suc i) ps = payments_to i ps ++ payment_text (get_or ps i no_payable)

unfoldable pub payments_text : ℕ → List Payable → List ℕ
payments_text n ps = payments_to (cond (ltb n 10) n 10) ps

-- what follows 119 of a 131
unfoldable pub message_text : Order → List ℕ
message_text o = (terms_text o ++ payments_text o.n o.payments) ++ line_text (bytes ":203:") (Count o.n)

-- "A recall ends after 119."
unfoldable pub order_text : Order → List ℕ
order_text o = head_text o ++ held (eqb o.subtype 131) (message_text o)

-- what a function that writes leaves: the place after the text, and the text in its place
pub record Puts (out : List ℕ) (at : ℕ) (text : List ℕ) (end : ℕ) (left : List ℕ) : Type 0 where
  pub past : end ≡ at + length text
  pub there : left ≡ sets out at text

-- "The request writer gives the number its reader would give, else 07 if the text does not fit, and then writes nothing."
abbrev pub answer_of : Outcome → List ℕ → ℕ → List ℕ → Result ℕ Refusal
answer_of (Refused b) out at text = Err b.refusal
answer_of Settlement out at text = written out at text
answer_of Recall out at text = written out at text

abbrev pub left_of : Outcome → List ℕ → ℕ → List ℕ → List ℕ
left_of (Refused b) out at text = out
left_of Settlement out at text = after out at text
left_of Recall out at text = after out at text

pub record Wrote (out : List ℕ) (at : ℕ) (o : Order) (w : Result ℕ Refusal) (left : List ℕ) : Type 0 where
  pub answer : w ≡ answer_of (request_at (order_text o)).outcome out at (order_text o)
  pub result : left ≡ left_of (request_at (order_text o)).outcome out at (order_text o)

-- what a text is that is no refused one
abbrev pub Accepted : Outcome → Type 0
Accepted Settlement = Unit {0}
Accepted Recall = Unit {0}
Accepted (Refused b) = ⊥

-- a text that is written is one that the reader accepts, it stands in its place whole, and nothing else changes
pub record Whole (out : List ℕ) (at : ℕ) (text : List ℕ) (e : ℕ) (left : List ℕ) (r : Outcome) : Type 0 where
  pub accepted : Accepted r
  pub end : e ≡ at + length text
  pub fits : at + length text ≤ length out
  pub there : left ≡ sets out at text
