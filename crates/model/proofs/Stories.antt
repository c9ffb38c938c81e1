-- Whole days by computation. A day is one equation: a list of calls, and what each must answer, write and try, and the balances after it.
use Prim.Native.Nat.{ℕ, ◌+◌, ◌*◌}
use Prim.Native.String.{String}
use mathlib.Core.Path.{◌≡◌, refl}
use mathlib.Core.Bool.{true, false}
use mathlib.Core.List.{List, [], ◌∷◌, ◌++◌, map}
use lib.ListN.{take}
use Rattle.chars.specs.Words.{bytes}
use Rattle.book_read.specs.Accounts.{Stream, Bank}
use Rattle.model.specs.declared.Action.{Action}
use Rattle.model.specs.declared.Action.TheVariants.{Opening, Message, SubLimit, Status, Tick, Close, ClosingBook}
use Rattle.model.specs.Answers.{answer_number}
use Rattle.model.specs.Promises.{by}
use Rattle.model.specs.Calls.{Call, Engine, Result, cleared}
use Rattle.chars.specs.Chars.{is_digit, is_letter, is_code, digit_value}
use Rattle.codes.specs.declared.Code.{Code}
use Rattle.codes.specs.Codes.{pack_on, short_at, long_of, long_at, unpacked, named, short_text, spelled, long_text, before, code_before}
use Rattle.checksum.specs.Sum.{word_of, sum_words, block_sum}
use Rattle.dates.specs.Dates.{february, months, days_in, is_true, day_of, month_day, date_of, is_remembered}
use Rattle.clock.specs.Clock.{clock_of, has_begun, minute_of, hhmm_of, second_of, hhmmss_of}
use Rattle.text_scan.specs.Scan.{begins, lit_at, run, codes_at, code_at, digits, digits_at, number_at, line_end, line_end_at}
use Rattle.text_values.specs.Values.{text_of, code_of, forbidden_at, reference_at, numeral_at, word_at, bin_at, numbered, numbers_at, count_in, date_at, time_at, side_at, hundredths, amount_at, count_at}
use Rattle.text_values.specs.Letters.{is_status, is_fourth, judged_at, letters_at}
use Rattle.text_fields.specs.Fields.{field_at}
use Rattle.request_read.specs.terms.Terms.{activation_at, terms_at}
use Rattle.request_read.specs.payments.Payments.{bank_at, credit_at, debit_at, payment_at, more_at, payments_on, payments_at}
use Rattle.request_read.specs.whole.Request.{named_at, address_at, settlement_at, recall_at, message_at, request_at}
use Rattle.text_put.specs.Digits.{digits_of}
use Rattle.response_write.specs.Texts.{head_text, batch_text, settled_text, rejected_text, settlement_text, recall_text}
use Rattle.book_read.specs.Block.{first_broken, little, head_right, zeros_at, unused_right, header_right, check_right, entries_right}
use Rattle.book_read.specs.Book.{date_in, stream_right, bits_past, bank_right, length_right, streams_counted, stream_rules, banks_counted, code_before as book-codeBefore, bank_rules, bank_blocks, bank_place, bank_count, total_right, book_rules, book_check}
use Rattle.book_read.specs.Accounts.{day_in, streams_in, banks_in}
use Rattle.book_write.specs.Closing.{little_of, stream_bytes, bank_bytes, sealed, stream_block, bank_block, bank_blocks_of, blocks_for, book_bytes}
use Rattle.settle.specs.Cover.{covered}
use Rattle.settle.specs.Payments.{payment, payment_at as settle-paymentAt, payments_from, needs_of}
use Rattle.settle.specs.Settlement.{first_uncovered, paid, settled}
use Rattle.settle.specs.Rules.{debits, credits}
use Rattle.queue.specs.Memory.{credited_by, credited, wake, forgotten}
use Rattle.queue.specs.Tests.{some, again, omits, remember, tried, turn, walk, test}
use Rattle.queue.specs.Promise.{Payer, sublimited}
use Rattle.model.specs.State.{seek_from}
use Rattle.model.specs.Memory.{is_used, vacant, note}
use Rattle.model.specs.Replies.{replies_to, text_of as engine-textOf, texts_from}
use Rattle.model.specs.Joining.{keep, insert, by_time, join}
use Rattle.model.specs.Messages.{first_broken as engine-firstBroken, stream_place, bank_place as engine-bankPlace, ended, assembling, waiting, line_payments, line_rules, message_rules, broken_part, on_sender, on_bin, completed, admit, recalling, message}
use Rattle.model.specs.Changes.{sub_limit, has_debit, with_esa, relabel, relettered, status}
use Rattle.model.specs.Ending.{emptied, after_test, settled_replies, close_replies}
use Rattle.model.specs.Days.{opened, opening_answer, closing_text}
use Rattle.model.specs.Calls.{most_written, rows_needed, judge, begun, act, woken, tested, replies, left, last_replies, goes_on, closes, stepped, call, run as engine-run}

-- ---- the words of a day

-- a call by the quick test, at a time of the day
abbrev pub asked : (hour minute second : ℕ) → Action → List ℕ → Call
asked h m s a input =
    record { asked = record { quick = true; clock = 3600 * h + (60 * m + s); action = a; input = input }; room = most_written; rows = rows_needed }

-- a text of administrator 5
abbrev pub says : (hour minute second : ℕ) → List ℕ → Call
says h m s text = asked h m s (Message 5) text

-- a call by the plain test, and one that lends a buffer and a row of other lengths
abbrev pub plainly : Call → Call
plainly c = by false c

abbrev pub lending : (room rows : ℕ) → Call → Call
lending room rows c = record { asked = c.asked; room = room; rows = rows }

abbrev pub code : String → ℕ
code c = short_at (bytes c) 0

abbrev pub long_code : String → Code
long_code b = long_of (bytes b)

-- a book from its values: a date as a day number, one stream PROP of administrator 5, banks in it
abbrev pub flagged : (code : String) (flags balance sublimit : ℕ) → Bank
flagged c flags balance sublimit = record { code = code c; flags = flags; balance = balance; sublimit = sublimit }

abbrev pub bank : (code : String) (balance sublimit : ℕ) → Bank
bank c balance sublimit = flagged c 2 balance sublimit

abbrev pub stream : String → ℕ → Stream
stream c sender = record { code = code c; sender = sender }

abbrev pub book : ℕ → List Bank → List ℕ
book day banks = book_bytes day (stream "PROP" 5 ∷ []) banks

-- a payment's lines
abbrev pub dr : (bank amount letters : String) → List ℕ
dr bank amount letters =
    bytes ":127:DR\r\n:32B:AUD" ++ (bytes amount ++ (bytes "\r\n:113:" ++ (bytes letters ++ (bytes "\r\n:102:" ++ (bytes bank ++ bytes "\r\n")))))

abbrev pub cr : (bank amount : String) → List ℕ
cr bank amount = bytes ":127:CR\r\n:32B:AUD" ++ (bytes amount ++ (bytes "\r\n:102:" ++ (bytes bank ++ bytes "\r\n")))

-- the lines of a message with one payment, and of one in which a bank pays another
abbrev pub alone : List ℕ → List ℕ
alone payment = payment ++ bytes ":203:1\r\n"

abbrev pub pays : (payer payee amount letters : String) → List ℕ
pays payer payee amount letters = dr payer amount letters ++ (cr payee amount ++ bytes ":203:2\r\n")

-- an activation before them
abbrev pub begins_at : String → List ℕ → List ℕ
begins_at time payments = bytes ":175:" ++ (bytes time ++ (bytes "\r\n" ++ payments))

-- the text of a 131 for a date, and of one of stream PROP for 3 February 2027
abbrev pub dated : (reference bin numbers date : String) → List ℕ → List ℕ
dated reference bin numbers date payments =
    bytes ":20:" ++ (bytes reference ++ (bytes "\r\n:12:131\r\n:77E:\r\n:22A:" ++ (take 4 (bytes bin) ++ (bytes "\r\n:119:" ++ (bytes bin
    ++ (bytes "\r\n:16A:" ++ (bytes numbers ++ (bytes "\r\n:171:" ++ (bytes date ++ (bytes "\r\n" ++ payments))))))))))

abbrev pub request : (reference bin numbers : String) → List ℕ → List ℕ
request reference bin numbers payments = dated reference bin numbers "270203" payments

-- and of a 133
abbrev pub recall_of : (reference bin : String) → List ℕ
recall_of reference bin =
    bytes ":20:" ++ (bytes reference ++ (bytes "\r\n:12:133\r\n:77E:\r\n:22A:PROP\r\n:119:" ++ (bytes bin ++ bytes "\r\n")))

-- the texts that are expected
abbrev pub reply132 : (number reference bin end : String) → List ℕ
reply132 number reference bin end =
    bytes ":20:B000000" ++ (bytes number ++ (bytes "\r\n:12:132\r\n:77E:\r\n:21:" ++ (bytes reference
    ++ (bytes "\r\n:22A:PROP\r\n:119:" ++ (bytes bin ++ (bytes "\r\n:451:" ++ (bytes end ++ bytes "\r\n")))))))

abbrev pub reply134 : (number reference end : String) → List ℕ
reply134 number reference end =
    bytes ":20:B000000" ++ (bytes number ++ (bytes "\r\n:12:134\r\n:77E:\r\n:21:" ++ (bytes reference
    ++ (bytes "\r\n:451:" ++ (bytes end ++ bytes "\r\n")))))

-- what is told of a call: its number, its texts, its tries, and the balances of the first two banks
pub record Line : Type 0 where
  pub number : ℕ
  pub out : List ℕ
  pub tries : List ℕ
  pub balances : List ℕ

abbrev pub line : ℕ → List ℕ → List ℕ → List ℕ → Line
line n o t b = record { number = n; out = o; tries = t; balances = b }

-- nothing written, nothing tried
abbrev pub quiet : ℕ → List ℕ → Line
quiet n b = line n [] [] b

abbrev pub told : Result → Line
told r = line (answer_number r.answer) r.out r.tries (take 2 r.engine.state.books.balances)

-- what is told of calls from an engine on, and of a day from a fresh start. To unfold either is to unfold the engine and all below it.
unfoldable pub goes : Engine → List Call → List Line
unfolding is_digit is_letter is_code digit_value pack_on short_at long_of long_at unpacked named short_text spelled long_text before code_before word_of sum_words block_sum february months days_in is_true day_of month_day date_of is_remembered clock_of has_begun minute_of hhmm_of second_of hhmmss_of begins lit_at run codes_at code_at digits digits_at number_at line_end line_end_at text_of code_of forbidden_at reference_at numeral_at word_at bin_at numbered numbers_at count_in date_at time_at side_at hundredths amount_at count_at is_status is_fourth judged_at letters_at field_at activation_at terms_at bank_at credit_at debit_at payment_at more_at payments_on payments_at named_at address_at settlement_at recall_at message_at request_at digits_of head_text batch_text settled_text rejected_text settlement_text recall_text first_broken little head_right zeros_at unused_right header_right check_right entries_right date_in stream_right bits_past bank_right length_right streams_counted stream_rules banks_counted book-codeBefore bank_rules bank_blocks bank_place bank_count total_right book_rules book_check day_in streams_in banks_in little_of stream_bytes bank_bytes sealed stream_block bank_block bank_blocks_of blocks_for book_bytes covered payment settle-paymentAt payments_from needs_of first_uncovered paid settled debits credits credited_by credited wake some again omits remember tried turn walk test forgotten Payer sublimited seek_from is_used vacant note replies_to engine-textOf texts_from keep insert by_time join engine-firstBroken stream_place engine-bankPlace ended assembling waiting line_payments line_rules message_rules broken_part on_sender on_bin completed admit recalling message sub_limit has_debit with_esa relabel relettered status emptied after_test settled_replies close_replies opened opening_answer closing_text judge begun act woken tested replies left last_replies goes_on closes stepped call engine-run
goes e calls = map told (engine-run e calls)

unfoldable pub plays : List Call → List Line
unfolding goes
plays calls = goes cleared calls

-- the engine after calls
unfoldable pub leaves : Engine → List Call → Engine
unfolding goes
leaves e [] = e
leaves e (c ∷ cs) = leaves (call e c).engine cs

-- ---- a day: parts out of order, a reference used twice, a batch held, a status change, an omitted try, a recall, a stranger with a used
-- reference, a changed sub-limit, a close with a batch left, the closing book

abbrev pub day_calls : List Call
day_calls =
    asked 9 0 0 Opening (book 9895 (bank "AAAA" 10000000 3000000 ∷ bank "BBBB" 0 0 ∷ []))
    ∷ says 10 0 0 (request "R2" "PROP0001" "02/02" (alone (cr "BBBB" "500,00")))
    ∷ says 10 0 1 (request "R1" "PROP0001" "01/02" (alone (dr "AAAA" "500," "AAA ")))
    ∷ says 10 0 2 (request "R1" "PROP0002" "01/01" (pays "AAAA" "BBBB" "1," "AAA "))
    ∷ says 10 0 3 (request "R3" "PROP0002" "01/01" (pays "BBBB" "AAAA" "999," "AAA "))
    ∷ asked 10 0 4 (Status (code "BBBB") (long_code "PROP0002") 68) []
    ∷ asked 10 0 5 Tick []
    ∷ says 10 0 6 (recall_of "R4" "PROP0002")
    ∷ asked 10 0 7 (Message 6) (request "R1" "PROP0004" "01/01" (alone (cr "BBBB" "1,")))
    ∷ says 10 0 8 (request "R5" "PROP0003" "01/02" (alone (dr "AAAA" "1," "AAA ")))
    ∷ asked 10 0 9 (SubLimit (code "AAAA") 2000000) []
    ∷ asked 17 0 0 Close []
    ∷ asked 17 0 1 (ClosingBook 270204) []
    ∷ []

pub a_day : plays day_calls
    ≡ line 0 [] [] (10000000 ∷ 0 ∷ [])
    ∷ line 0 [] [] (10000000 ∷ 0 ∷ [])
    ∷ line 0 (reply132 "1" "R2" "PROP0001" "0\r\n:13E:270203100001" ++ reply132 "2" "R1" "PROP0001" "0\r\n:13E:270203100001") (1 ∷ []) (9950000 ∷ 50000 ∷ [])
    ∷ line 74 [] [] (9950000 ∷ 50000 ∷ [])
    ∷ line 0 [] (0 ∷ []) (9950000 ∷ 50000 ∷ [])
    ∷ line 0 [] (0 ∷ []) (9950000 ∷ 50000 ∷ [])
    ∷ line 0 [] [] (9950000 ∷ 50000 ∷ [])
    ∷ line 0 (reply134 "3" "R4" "0" ++ reply132 "4" "R3" "PROP0002" "1\r\n:432:03") [] (9950000 ∷ 50000 ∷ [])
    ∷ line 73 [] [] (9950000 ∷ 50000 ∷ [])
    ∷ line 0 [] [] (9950000 ∷ 50000 ∷ [])
    ∷ line 0 [] [] (9950000 ∷ 50000 ∷ [])
    ∷ line 0 (reply132 "5" "R5" "PROP0003" "1\r\n:432:86") [] (9950000 ∷ 50000 ∷ [])
    ∷ line 0 (book 9896 (bank "AAAA" 9950000 2000000 ∷ bank "BBBB" 50000 0 ∷ [])) [] (9950000 ∷ 50000 ∷ [])
    ∷ []
unfolding plays
a_day = refl

-- ---- a second day: two activations that begin in one call, a used reference that ends the batch being assembled, a BIN that is not being
-- assembled any more, sums that differ, a recall in the minute of joining, a sub-limit out of range, an opening that is not later

abbrev pub timed : (reference bin time : String) → List ℕ
timed reference bin time = request reference bin "01/01" (begins_at time (pays "AAAA" "BBBB" "100,00" "PAA "))

abbrev one_debit : List ℕ
one_debit = alone (dr "AAAA" "1," "AAA ")

abbrev calls₂ : List Call
calls₂ =
    asked 9 0 0 Opening (book 9895 (bank "AAAA" 10000000 0 ∷ bank "BBBB" 0 0 ∷ []))
    ∷ says 10 0 0 (timed "A1" "PROP0001" "1030")
    ∷ says 10 0 1 (timed "A2" "PROP0002" "1015")
    ∷ asked 10 31 0 Tick []
    ∷ says 10 31 1 (request "A3" "PROP0003" "01/02" one_debit)
    ∷ says 10 31 2 (request "A1" "PROP0003" "02/02" one_debit)
    ∷ says 10 31 3 (request "A4" "PROP0003" "01/02" one_debit)
    ∷ says 10 31 4 (request "A5" "PROP0004" "01/01" one_debit)
    ∷ says 10 31 5 (timed "A6" "PROP0005" "1040")
    ∷ says 10 40 0 (recall_of "A7" "PROP0005")
    ∷ asked 10 40 1 (SubLimit (code "AAAA") 6400000000000001) []
    ∷ asked 17 0 0 Close []
    ∷ asked 9 0 0 Opening (book 9895 (bank "AAAA" 10000000 0 ∷ []))
    ∷ []

pub a_second_day : plays calls₂
    ≡ line 0 [] [] (10000000 ∷ 0 ∷ [])
    ∷ line 0 [] [] (10000000 ∷ 0 ∷ [])
    ∷ line 0 [] [] (10000000 ∷ 0 ∷ [])
    ∷ line 0 (reply132 "1" "A2" "PROP0002" "0\r\n:13E:270203103100" ++ reply132 "2" "A1" "PROP0001" "0\r\n:13E:270203103100") (3 ∷ 1 ∷ []) (9980000 ∷ 20000 ∷ [])
    ∷ line 0 [] [] (9980000 ∷ 20000 ∷ [])
    ∷ line 74 (reply132 "3" "A3" "PROP0003" "1\r\n:432:74") [] (9980000 ∷ 20000 ∷ [])
    ∷ line 87 (reply132 "4" "A4" "PROP0003" "1\r\n:432:87") [] (9980000 ∷ 20000 ∷ [])
    ∷ line 1 (reply132 "5" "A5" "PROP0004" "1\r\n:432:01") [] (9980000 ∷ 20000 ∷ [])
    ∷ line 0 [] [] (9980000 ∷ 20000 ∷ [])
    ∷ line 0 (reply134 "6" "A7" "0" ++ reply132 "7" "A6" "PROP0005" "1\r\n:432:03") [] (9980000 ∷ 20000 ∷ [])
    ∷ line 14 [] [] (9980000 ∷ 20000 ∷ [])
    ∷ line 0 [] [] (9980000 ∷ 20000 ∷ [])
    ∷ line 5 [] [] (9980000 ∷ 20000 ∷ [])
    ∷ []
unfolding plays
a_second_day = refl
