-- The values of a request: as an administrator gives them, and as they are read.
use Rattle.std.specs.Prelude.{ℕ, ◌<◌, ◌≡◌, cond, List, map, eqb, get_or, Some}
use Rattle.codes.specs.declared.Code.{Code}
use Rattle.dates.specs.Dates.{day_of, date_of}
use Rattle.request_read.specs.declared.payments.Payment.{Payment}
use Rattle.request_read.specs.whole.Request.{request_at}
use Rattle.request_read.specs.declared.whole.Head.{Head}
use Rattle.request_read.specs.declared.whole.Reading.{Reading}
use Rattle.request_read.specs.payments.Payments.{no_payment}
use Rattle.request_write.specs.Orders.{no_payable, order_text}
use Rattle.request_write.specs.declared.Payable.{Payable}
use Rattle.request_write.specs.declared.Order.{Order}
use Rattle.request_write.specs.declared.Side.{Side}
use Rattle.request_write.specs.declared.Side.TheVariants.{Credit, Debit}

-- "127 is `CR` or `DR`", 0 and 1; "a space means A but is written back as a space": the letters are the same word
abbrev pub SameSide : Side → ℕ → ℕ → Type 0
SameSide Credit side letters = (side ≡ 0) × (letters ≡ 0)
SameSide (Debit given) side letters = (side ≡ 1) × (letters ≡ given)

pub record SamePayment (side : Side) (cents bank : ℕ) (p : Payment) : Type 0 where
  pub same_side : SameSide side p.side.number p.letters.number
  pub same_cents : p.amount.number ≡ cents
  pub same_bank : p.bank.number ≡ bank

abbrev pub SamePayable : Payable → Payment → Type 0
SamePayable l p = SamePayment l.side l.cents l.bank p

-- 20 to 119
pub record SameHead (o : Order) (h : Head) : Type 0 where
  pub reference : h.reference.code ≡ o.reference
  pub subtype : h.subtype.number ≡ o.subtype
  pub stream : h.address.stream.number ≡ o.stream
  pub bin : h.address.bin.code ≡ o.bin

-- a whole settlement request; a date is given as YYMMDD and read as a day number
pub record SameValues (o : Order) (r : Reading) : Type 0 where
  pub head : SameHead o r.head
  pub number : r.terms.number ≡ o.number
  pub count : r.terms.count ≡ o.count
  pub date : day_of o.date ≡ Some r.terms.date.number
  pub activation : r.terms.activation ≡ o.activation
  pub n : r.n ≡ o.n
  pub payments : (i : ℕ) → i < o.n → SamePayable (get_or o.payments i no_payable) (get_or r.payments i no_payment)

-- the halves of a code are numbers of 64 bits
abbrev pub Halves : Code → Type 0
Halves c = (c.high < 18446744073709551616) × (c.low < 18446744073709551616)

-- what the types of an order's numbers say of its two codes
pub record Typed (o : Order) : Type 0 where
  pub reference : Halves o.reference
  pub bin : Halves o.bin

-- the order that gives the values of a reading
unfoldable pub payable_of : Payment → Payable
payable_of p = record { side = cond (eqb p.side.number 0) Credit (Debit p.letters.number); cents = p.amount.number; bank = p.bank.number }

unfoldable pub order_of : Reading → Order
order_of r = record {
  subtype = r.head.subtype.number;
  reference = r.head.reference.code;
  stream = r.head.address.stream.number;
  bin = r.head.address.bin.code;
  number = r.terms.number;
  count = r.terms.count;
  date = date_of r.terms.date.number;
  activation = r.terms.activation;
  payments = map payable_of r.payments;
  n = r.n;
}

-- the text of a request that is written again from its reading
abbrev pub again : List ℕ → List ℕ
again s = order_text (order_of (request_at s))

-- two readings of the same request: all but the places where the fields stand
pub record SamePaid (p t : Payment) : Type 0 where
  pub side : p.side.number ≡ t.side.number
  pub cents : p.amount.number ≡ t.amount.number
  pub letters : p.letters.number ≡ t.letters.number
  pub bank : p.bank.number ≡ t.bank.number

pub record SameNames (h k : Head) : Type 0 where
  pub reference : h.reference.code ≡ k.reference.code
  pub subtype : h.subtype.number ≡ k.subtype.number
  pub stream : h.address.stream.number ≡ k.address.stream.number
  pub bin : h.address.bin.code ≡ k.address.bin.code

pub record SameRequest (r t : Reading) : Type 0 where
  pub head : SameNames r.head t.head
  pub number : r.terms.number ≡ t.terms.number
  pub count : r.terms.count ≡ t.terms.count
  pub date : r.terms.date.number ≡ t.terms.date.number
  pub activation : r.terms.activation ≡ t.terms.activation
  pub n : r.n ≡ t.n
  pub payments : (i : ℕ) → i < r.n → SamePaid (get_or r.payments i no_payment) (get_or t.payments i no_payment)
