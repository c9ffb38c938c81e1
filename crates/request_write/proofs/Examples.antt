-- Orders whose texts are worked out here: they read back as the same values.
use Prim.Native.Nat.{ℕ}
use mathlib.Core.Path.{◌≡◌, refl}
use mathlib.Core.List.{List, ◌∷◌}
use lib.ListN.{replicate}
use Rattle.chars.specs.Words.{bytes}
use Rattle.chars.specs.Chars.{is_digit, is_letter, is_code}
use Rattle.clock.specs.Clock.{hhmm_of}
use Rattle.codes.specs.Codes.{pack_on, packed, long_of, unpacked, named, short_text, spelled, long_text}
use Rattle.text_put.specs.Digits.{digits_of}
use Rattle.request_read.specs.declared.terms.Activation.TheVariants.{Minute}
use Rattle.request_write.specs.Orders.{fixed, width_on, width_of, blank, proper, name_text, four_text, numbers_text, time_text, amount_text, count_text, line_text, head_text, terms_text, payment_of, no_payable, payments_to, payments_text, message_text, order_text}
use Rattle.request_write.specs.declared.Payable.{Payable}
use Rattle.request_write.specs.declared.Side.TheVariants.{Credit, Debit}
use Rattle.request_write.specs.declared.Order.{Order}

abbrev lines : List Payable
lines = record { side = Debit (packed 4 (bytes "A P ")); cents = 1205; bank = packed 4 (bytes "AAAA") } ∷ (record { side = Credit; cents = 999999999999; bank = packed 4 (bytes "BBBB") } ∷ replicate 8 no_payable)

abbrev pub order : ℕ → ℕ → Order
order subtype n = record {
  subtype = subtype;
  reference = long_of (bytes "PROPNET000000001");
  stream = packed 4 (bytes "PROP");
  bin = long_of (bytes "PROP0001");
  number = 1;
  count = 2;
  date = 270203;
  activation = Minute 630;
  payments = lines;
  n = n;
}

-- a 131 with a debit and a credit: a space stays a space, cents have two digits, units no leading zero
pub settlement : order_text (order 131 2) ≡ bytes ":20:PROPNET000000001\r\n:12:131\r\n:77E:\r\n:22A:PROP\r\n:119:PROP0001\r\n:16A:01/02\r\n:171:270203\r\n:175:1030\r\n:127:DR\r\n:32B:AUD12,05\r\n:113:A P \r\n:102:AAAA\r\n:127:CR\r\n:32B:AUD9999999999,99\r\n:102:BBBB\r\n:203:2\r\n"
unfolding fixed width_on width_of blank proper name_text four_text numbers_text time_text amount_text count_text line_text head_text terms_text payment_of payments_to payments_text message_text order_text digits_of pack_on long_of unpacked named short_text spelled long_text hhmm_of is_code is_letter is_digit
settlement = refl

-- a 133 ends after 119
pub recall : order_text (order 133 2) ≡ bytes ":20:PROPNET000000001\r\n:12:133\r\n:77E:\r\n:22A:PROP\r\n:119:PROP0001\r\n"
unfolding fixed width_on width_of blank proper name_text four_text numbers_text time_text amount_text count_text line_text head_text terms_text payment_of payments_to payments_text message_text order_text digits_of pack_on long_of unpacked named short_text spelled long_text hhmm_of is_code is_letter is_digit
recall = refl
