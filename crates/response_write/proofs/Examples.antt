-- The example of document 01: "Whole, CR LF after each line, 105 bytes".
use mathlib.Core.Path.{◌≡◌, refl}
use lib.ListN.{length}
use Rattle.chars.specs.Words.{bytes}
use Rattle.codes.specs.Codes.{pack_on, packed, long_of, unpacked, named, short_text, spelled, long_text}
use Rattle.dates.specs.Dates.{february, months, month_day, date_of}
use Rattle.clock.specs.Clock.{hhmmss_of}
use Rattle.text_put.specs.Digits.{digits_of}
use Rattle.response_write.specs.Texts.{head_text, batch_text, settled_text, settlement_text}
use Rattle.response_write.specs.declared.Outcome.TheVariants.{Settled}
use Rattle.response_write.specs.declared.Settlement.{Settlement}

-- 9,895 is the day 2027-02-03, and 36,930 the second 10:15:30 of it
abbrev pub example : Settlement
example = record {
  number = 1;
  reference = long_of (bytes "PROPNET000000001");
  stream = packed 4 (bytes "PROP");
  bin = long_of (bytes "PROP0001");
  outcome = Settled 9895 36930;
}

pub example_text : settlement_text example ≡ bytes ":20:B0000001\r\n:12:132\r\n:77E:\r\n:21:PROPNET000000001\r\n:22A:PROP\r\n:119:PROP0001\r\n:451:0\r\n:13E:270203101530\r\n"
unfolding settlement_text head_text batch_text settled_text digits_of short_text long_text spelled named unpacked long_of pack_on date_of month_day months february hhmmss_of
example_text = refl

pub example_length : length (settlement_text example) ≡ 105
unfolding settlement_text head_text batch_text settled_text digits_of short_text long_text spelled named unpacked long_of pack_on date_of month_day months february hhmmss_of
example_length = refl
