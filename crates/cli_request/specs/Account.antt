-- The account of a request, a line each, as it is told of an accepted one; and the order that it asks for.
use Rattle.std.specs.Prelude.{ℕ, zero, suc, ◌+◌, ◌-◌, Bool, true, ◌&&◌, ◌||◌, cond, List, [], ◌∷◌, eqb, leb, ltb, length, get_or, take, drop, set, replicate}
use Rattle.std.specs.Prelude.{Option, Some, None, Result, Ok, Err}
use Rattle.chars.specs.Words.{bytes, crlf}
use Rattle.chars.specs.Chars.{is_letter}
use Rattle.codes.specs.Codes.{no_code, short_at, long_at}
use Rattle.codes.specs.declared.Code.{Code}
use Rattle.clock.specs.Clock.{minute_of}
use Rattle.text_scan.specs.Scan.{on_next, lit_at, codes_at, code_at, digits_at, number_at}
use Rattle.request_read.specs.declared.terms.Activation.{Activation}
use Rattle.request_read.specs.declared.terms.Activation.TheVariants.{AtOnce, Minute}
use Rattle.request_write.specs.declared.Payable.{Payable}
use Rattle.request_write.specs.declared.Side.{Side}
use Rattle.request_write.specs.declared.Side.TheVariants.{Credit, Debit}
use Rattle.request_write.specs.Orders.{no_payable}
use Rattle.cli_request.specs.declared.Spelling.{Spelling}
use Rattle.cli_request.specs.declared.Spelling.TheVariants.{Digits, Four}
use Rattle.cli_request.specs.declared.Expected.{Expected}
use Rattle.cli_request.specs.declared.Expected.TheVariants as wanted
use Rattle.cli_request.specs.declared.ToldPayments.{ToldPayments}
use Rattle.cli_request.specs.declared.ToldHead.{ToldHead}
use Rattle.cli_request.specs.declared.ToldTerms.{ToldTerms}
use Rattle.cli_request.specs.declared.Account.{Account}

-- what follows a value that was read, or what stands for one that was not
abbrev pub on_value : {A : Type 0} → Option (ℕ × ℕ) → A → (ℕ → ℕ → A) → A
on_value (Some (v, e)) d k = k v e
on_value None d k = d

abbrev pub on_number : {A : Type 0} → Option (ℕ × ℕ) → A → (ℕ → ℕ → A) → A
on_number (Some w) d k = k w.0 w.1
on_number None d k = d

abbrev pub on_pair : {A : Type 0} → Option (ℕ × ℕ × ℕ) → A → (ℕ → ℕ → ℕ → A) → A
on_pair (Some w) d k = k w.0 w.1 w.2
on_pair None d k = d

abbrev pub on_name : {A : Type 0} → Option (Code × ℕ) → A → (Code → ℕ → A) → A
on_name (Some w) d k = k w.0 w.1
on_name None d k = d

abbrev pub on_time : {A : Type 0} → Option (Activation × ℕ) → A → (Activation → ℕ → A) → A
on_time (Some w) d k = k w.0 w.1
on_time None d k = d

abbrev pub on_sum : {A : Type 0} → Option (ℕ × ℕ × ℕ) → A → (ℕ → ℕ → ℕ → A) → A
on_sum (Some w) d k = k w.0 w.1 w.2
on_sum None d k = d

abbrev pub on_paid : {A : Type 0} → Option (Payable × ℕ) → A → (Payable → ℕ → A) → A
on_paid (Some w) d k = k w.0 w.1
on_paid None d k = d

-- ---- a line

-- a line ends with a line feed, a CR before it or not, or with the account
unfoldable pub line_over : List ℕ → ℕ → Option ℕ
line_over s at = cond (leb (length s) at) (Some at) (cond (eqb (get_or s at 0) 10) (Some (at + 1)) (lit_at s at crlf))

unfoldable pub kind_at : List ℕ → ℕ → Spelling → Option (ℕ × ℕ)
kind_at s at (Digits k) = on_value (number_at s at k) None (λ v e. Some (v, e))
kind_at s at Four = on_next (code_at s at 4) None (λ e. Some (short_at s at, e))

-- a name, a value, the end of the line
unfoldable pub line_at : List ℕ → ℕ → List ℕ → Spelling → Option (ℕ × ℕ)
line_at s at name kind =
    on_next (lit_at s at name) None (λ a.
    on_number (kind_at s a kind) None (λ v b.
    on_next (line_over s b) None (λ c.
    Some (v, c))))

-- "message 01/02"
unfoldable pub numbers_at : List ℕ → ℕ → Option (ℕ × ℕ × ℕ)
numbers_at s at =
    on_next (lit_at s at (bytes "message ")) None (λ a.
    on_value (number_at s a 2) None (λ n b.
    on_next (lit_at s b (bytes "/")) None (λ c.
    on_number (line_at s c [] (Digits 2)) None (λ m d.
    Some (n, m, d)))))

-- "reference R", "bin B": up to so many of A-Z 0-9
unfoldable pub name_at : List ℕ → ℕ → List ℕ → ℕ → Option (Code × ℕ)
name_at s at name most =
    on_next (lit_at s at name) None (λ a.
    on_next (line_over s (codes_at s a most)) None (λ c.
    Some (long_at s a (codes_at s a most - a), c)))

-- HHMM that is no time is a minute that no text can hold
abbrev pub minute_told : Option ℕ → Activation
minute_told (Some m) = Minute m
minute_told None = Minute 1440

unfoldable pub activation_of : ℕ → Activation
activation_of hhmm = minute_told (minute_of hhmm)

-- "activation 1030 or activation none"
unfoldable pub activation_at : List ℕ → ℕ → Option (Activation × ℕ)
activation_at s at =
    on_next (lit_at s at (bytes "activation none"))
    (on_number (line_at s at (bytes "activation ") (Digits 4)) None (λ v c. Some (activation_of v, c)))
    (λ a. on_next (line_over s a) None (λ b. Some (AtOnce, b)))

-- ---- a payment

-- some digits, and no needless zero before them
unfoldable pub is_plain : List ℕ → ℕ → ℕ → Bool
is_plain s at end = ltb at end && cond (eqb (get_or s at 0) 48) (eqb end (at + 1)) true

-- "CENTS BANK"
unfoldable pub sum_at : List ℕ → ℕ → Option (ℕ × ℕ × ℕ)
sum_at s at =
    cond (is_plain s at (digits_at s at 18).end)
    (on_next (lit_at s (digits_at s at 18).end (bytes " ")) None (λ b.
    on_next (code_at s b 4) None (λ c.
    Some ((digits_at s at 18).value, short_at s b, c))))
    None

-- "the four letters as they stand, a space printed as `-`"
unfoldable pub is_shown : ℕ → Bool
is_shown b = eqb b 45 || is_letter b

unfoldable pub are_shown : List ℕ → Bool
are_shown l = is_shown (get_or l 0 0) && (is_shown (get_or l 1 0) && (is_shown (get_or l 2 0) && is_shown (get_or l 3 0)))

unfoldable pub unshown : ℕ → ℕ
unshown b = cond (eqb b 45) 32 b

abbrev pub four_at : List ℕ → ℕ → List ℕ
four_at s at = get_or s at 0 ∷ get_or s (at + 1) 0 ∷ get_or s (at + 2) 0 ∷ get_or s (at + 3) 0 ∷ []

unfoldable pub spaced : List ℕ → List ℕ
spaced l = unshown (get_or l 0 0) ∷ unshown (get_or l 1 0) ∷ unshown (get_or l 2 0) ∷ unshown (get_or l 3 0) ∷ []

unfoldable pub letters_at : List ℕ → ℕ → Option (ℕ × ℕ)
letters_at s at =
    cond (leb (at + 4) (length s))
    (cond (are_shown (four_at s at)) (Some (short_at (spaced (four_at s at)) 0, at + 4)) None)
    None

abbrev pub payable : Side → ℕ → ℕ → Payable
payable side cents bank = record { side = side; cents = cents; bank = bank }

unfoldable pub credit_at : List ℕ → ℕ → Option (Payable × ℕ)
credit_at s at =
    on_sum (sum_at s at) None (λ cents bank a.
    on_next (line_over s a) None (λ b.
    Some (payable Credit cents bank, b)))

unfoldable pub debit_at : List ℕ → ℕ → Option (Payable × ℕ)
debit_at s at =
    on_sum (sum_at s at) None (λ cents bank a.
    on_next (lit_at s a (bytes " ")) None (λ b.
    on_number (letters_at s b) None (λ letters c.
    on_next (line_over s c) None (λ d.
    Some (payable (Debit letters) cents bank, d)))))

-- "payment CR CENTS BANK or payment DR CENTS BANK LETTERS"
unfoldable pub payment_at : List ℕ → ℕ → Option (Payable × ℕ)
payment_at s at =
    on_next (lit_at s at (bytes "payment CR "))
    (on_next (lit_at s at (bytes "payment DR ")) None (debit_at s))
    (credit_at s)

abbrev pub no_payables : List Payable
no_payables = replicate 10 no_payable

abbrev pub paid : List Payable → ℕ → Result (Unit {0}) (ℕ × Expected) → ToldPayments
paid payments n ending = record { payments = payments; n = n; ending = ending }

-- with n payments so far and room for as many more as the first number says; an eleventh is counted and not kept
unfoldable pub payments_on : ℕ → List ℕ → ℕ → ℕ → List Payable → ToldPayments
payments_on zero s at n payments =
    cond (leb (length s) at) (paid payments n (Ok tt))
    (on_paid (payment_at s at) (paid payments n (Err (at, wanted.Payment))) (λ p e. paid payments 11 (Ok tt)))
payments_on (suc room) s at n payments =
    cond (leb (length s) at) (paid payments n (Ok tt))
    (on_paid (payment_at s at) (paid payments n (Err (at, wanted.Payment))) (λ p e. payments_on room s e (n + 1) (set payments n p)))

unfoldable pub payments_at : List ℕ → ℕ → ToldPayments
payments_at s at = payments_on 10 s at 0 no_payables

-- ---- the account

-- "accepted 131, reference R, stream S, bin B"
unfoldable pub head_at : List ℕ → ℕ → Result (ToldHead × ℕ) (ℕ × Expected)
head_at s at =
    on_number (line_at s at (bytes "accepted ") (Digits 3)) (Err (at, wanted.SubType)) (λ subtype a.
    on_name (name_at s a (bytes "reference ") 16) (Err (a, wanted.Reference)) (λ reference b.
    on_number (line_at s b (bytes "stream ") Four) (Err (b, wanted.Stream)) (λ stream c.
    on_name (name_at s c (bytes "bin ") 8) (Err (c, wanted.Bin)) (λ bin d.
    Ok (record { subtype = subtype; reference = reference; stream = stream; bin = bin }, d)))))

-- "message 01/02, date 270203, activation 1030 or activation none"
unfoldable pub terms_at : List ℕ → ℕ → Result (ToldTerms × ℕ) (ℕ × Expected)
terms_at s at =
    on_pair (numbers_at s at) (Err (at, wanted.Message)) (λ number count a.
    on_number (line_at s a (bytes "date ") (Digits 6)) (Err (a, wanted.Date)) (λ date b.
    on_time (activation_at s b) (Err (b, wanted.Activation)) (λ activation c.
    Ok (record { number = number; count = count; date = date; activation = activation }, c))))

-- where the next line begins
unfoldable pub line_from : ℕ → List ℕ → ℕ
line_from at [] = at
line_from at (x ∷ l) = cond (eqb x 10) (at + 1) (line_from (at + 1) l)

unfoldable pub line_after : List ℕ → ℕ → ℕ
line_after s at = line_from at (drop at s)

-- a line that names the file may come first
unfoldable pub first_line : List ℕ → ℕ
first_line s = on_next (lit_at s 0 (bytes "file ")) 0 (line_after s)

unfoldable pub asked : ToldHead → ToldTerms → ToldPayments → Account
asked h t p = record {
  order = record {
    subtype = h.subtype;
    reference = h.reference;
    stream = h.stream;
    bin = h.bin;
    number = t.number;
    count = t.count;
    date = t.date;
    activation = t.activation;
    payments = p.payments;
    n = p.n;
  };
  ending = p.ending;
}

abbrev pub no_terms : ToldTerms
no_terms = record { number = 0; count = 0; date = 0; activation = AtOnce }

abbrev pub no_head : ToldHead
no_head = record { subtype = 0; reference = no_code; stream = 0; bin = no_code }

-- the head alone
unfoldable pub headed : ToldHead → Result (Unit {0}) (ℕ × Expected) → Account
headed h ending = asked h no_terms (paid no_payables 0 ending)

unfoldable pub unread : ℕ → Expected → Account
unread at expected = headed no_head (Err (at, expected))

abbrev pub on_terms : {A : Type 0} → Result (ToldTerms × ℕ) (ℕ × Expected) → (ℕ → Expected → A) → (ToldTerms → ℕ → A) → A
on_terms (Ok (t, e)) d k = k t e
on_terms (Err (at, x)) d k = d at x

-- what follows the head of a 131
unfoldable pub message_at : List ℕ → ℕ → ToldHead → Account
message_at s at head =
    on_terms (terms_at s at) (λ here x. headed head (Err (here, x))) (λ terms next. asked head terms (payments_at s next))

-- a recall ends after its head; what follows another sub type is not read
unfoldable pub body_at : List ℕ → ℕ → ToldHead → Account
body_at s at head =
    cond (eqb head.subtype 131) (message_at s at head)
    (cond (eqb head.subtype 133 && ltb at (length s)) (headed head (Err (at, wanted.Nothing))) (headed head (Ok tt)))

abbrev pub on_head : {A : Type 0} → Result (ToldHead × ℕ) (ℕ × Expected) → (ℕ → Expected → A) → (ToldHead → ℕ → A) → A
on_head (Ok (h, e)) d k = k h e
on_head (Err (at, x)) d k = d at x

-- the order that an account asks for
unfoldable pub account_in : List ℕ → Account
account_in s = on_head (head_at s (first_line s)) unread (λ head at. body_at s at head)

-- the number of the line at a place, from 1
unfoldable pub feed : ℕ → ℕ
feed b = cond (eqb b 10) 1 0

abbrev pub fed : List ℕ → ℕ
fed [] = 0
fed (x ∷ l) = feed x + fed l

unfoldable pub line_of : List ℕ → ℕ → ℕ
line_of s at = 1 + fed (take at s)
