-- 04: days that stand with a full table. Step 4 of a message.
use Prim.Native.Nat.{ℕ, zero, suc, ◌+◌}
use Prim.Native.String.{String}
use mathlib.Core.Path.{◌≡◌, refl}
use mathlib.Core.List.{List, [], ◌∷◌, ◌++◌}
use lib.ListN.{take, drop, replicate}
use Rattle.chars.specs.Words.{bytes}
use Rattle.codes.specs.declared.Code.{Code}
use Rattle.codes.specs.Codes.{long_of}
use Rattle.text_put.specs.Digits.{digits_of}
use Rattle.request_read.specs.declared.terms.Activation.TheVariants.{AtOnce}
use Rattle.settle.specs.Payments.{Payment, credit, debit}
use Rattle.settle.specs.Settlement.{accounts}
use Rattle.model.specs.declared.Phase.TheVariants.{Open}
use Rattle.model.specs.State.{Batches, Place, free, live, Entry, no_entry, no_memory, State, with_clock}
use Rattle.model.specs.Calls.{Call, Engine}
use Rattle.model.proofs.Stories.{says, code, stream, request, recall_of, alone, pays, cr, reply132, reply134, line, quiet, goes, leaves, long_code}

-- ---- states built to keep the table rules (that they do is not proved), on 3 February 2027 at ten

-- a word and four digits
abbrev nth : String → ℕ → Code
nth word i = long_of (bytes word ++ digits_of 4 i)

-- n entries of the day, the first with number i
abbrev entries : String → (n i : ℕ) → List Entry
entries word zero i = []
entries word (suc n) i = record { code = nth word i; day = 9895 } ∷ entries word n (i + 1)

abbrev standing : (references bins : List Entry) → Batches → Engine
standing references bins batches = record {
  state = record {
    day = record { phase = Open; date = 9895; clock = 36000; texts = 0 };
    house = record {
      streams = stream "PROP" 5 ∷ [];
      banks = 2;
      codes = code "AAAA" ∷ code "BBBB" ∷ replicate 62 0;
      flags = 2 ∷ 2 ∷ replicate 62 0;
    };
    books = accounts (10000 ∷ 0 ∷ replicate 62 0) (replicate 64 0);
    batches = batches;
    known = record { references = references; bins = bins };
  };
  memory = no_memory;
}

-- the batch of PROP and the number i, its first message R and that number
abbrev batch : (count i : ℕ) → List Payment → Place
batch count i payments = live (record {
  bin = nth "PROP" i;
  count = count;
  activation = AtOnce;
  messages = record { reference = nth "R" i; number = 1; payments = payments } ∷ [];
})

-- n batches, each with one of two messages there
abbrev assembled : (n i : ℕ) → List Place
assembled zero i = []
assembled (suc n) i = batch 2 i (debit (code "PAA ") 0 100 ∷ []) ∷ assembled n (i + 1)

-- ---- 2,048 references, and a queued batch that AAAA can't pay

abbrev no_reference : Engine
no_reference = standing (entries "R" 2048 0) (entries "PROP" 1 0 ++ replicate 511 no_entry) (record {
  places = batch 1 0 (debit (code "AAA ") 0 50000 ∷ credit 1 50000 ∷ []) ∷ replicate 31 free;
  pending = [];
  queue = 0 ∷ [];
})

abbrev calls : List Call
calls =
    says 10 0 1 (request "N1" "PROP0001" "01/01" (pays "AAAA" "BBBB" "1," "AAA "))
    ∷ says 10 0 2 (recall_of "N2" "PROP0000")
    ∷ says 10 0 3 (request "R2047" "PROP0001" "01/01" (pays "AAAA" "BBBB" "1," "AAA "))
    ∷ []

-- 04 for a 131 and for a recall, with the queue test and without a text; a used reference is 74 even then
pub no_place_for_a_reference : goes no_reference calls
    ≡ line 4 [] (0 ∷ []) (10000 ∷ 0 ∷ []) ∷ quiet 4 (10000 ∷ 0 ∷ []) ∷ quiet 74 (10000 ∷ 0 ∷ []) ∷ []
unfolding goes
no_place_for_a_reference = refl

-- "left behind: clock, queue test": of the state only the clock has changed
abbrev at : ℕ → State → State
at clock s = record { day = with_clock s.day clock; house = s.house; books = s.books; batches = s.batches; known = s.known }

pub only_the_clock : (leaves no_reference calls).state ≡ at 36003 no_reference.state
unfolding leaves
only_the_clock = refl

-- ---- 32 live batches: no new BIN, until one of them has ended. 04 notes nothing, so that N1 is still unused

abbrev no_batch : Engine
no_batch = standing (entries "R" 32 0 ++ replicate 2016 no_entry) (entries "PROP" 32 0 ++ replicate 480 no_entry)
    (record { places = assembled 32 0; pending = []; queue = [] })

abbrev no_place_for_a_batch_calls : List Call
no_place_for_a_batch_calls =
    says 10 0 1 (request "N1" "PROP0032" "01/01" (pays "AAAA" "BBBB" "1," "AAA "))
    ∷ says 10 0 2 (recall_of "N2" "PROP0006")
    ∷ says 10 0 3 (request "N1" "PROP0005" "02/02" (alone (cr "BBBB" "1,")))
    ∷ says 10 0 4 (request "N3" "PROP0032" "01/01" (pays "AAAA" "BBBB" "1," "AAA "))
    ∷ []

pub no_place_for_a_batch : goes no_batch no_place_for_a_batch_calls
    ≡ quiet 4 (10000 ∷ 0 ∷ [])
    ∷ line 2 (reply134 "1" "N2" "1\r\n:432:02") [] (10000 ∷ 0 ∷ [])
    ∷ line 0 (reply132 "2" "R0005" "PROP0005" "0\r\n:13E:270203100003" ++ reply132 "3" "N1" "PROP0005" "0\r\n:13E:270203100003") (11 ∷ []) (9900 ∷ 100 ∷ [])
    ∷ line 0 (reply132 "4" "N3" "PROP0032" "0\r\n:13E:270203100004") (11 ∷ []) (9800 ∷ 200 ∷ [])
    ∷ []
unfolding goes
no_place_for_a_batch = refl

-- ---- 512 BINs: no new one, but a batch that is being assembled goes on, and a known BIN is refused for itself

abbrev no_bin : Engine
no_bin = standing (entries "R" 512 0 ++ replicate 1536 no_entry) (entries "PROP" 512 0)
    (record { places = assembled 1 0 ++ replicate 31 free; pending = []; queue = [] })

abbrev calls_of_bins : List Call
calls_of_bins =
    says 10 0 1 (request "N1" "PROP0600" "01/01" (pays "AAAA" "BBBB" "1," "AAA "))
    ∷ says 10 0 2 (request "N1" "PROP0001" "01/01" (pays "AAAA" "BBBB" "1," "AAA "))
    ∷ says 10 0 3 (recall_of "N2" "PROP0600")
    ∷ says 10 0 4 (request "N3" "PROP0000" "02/02" (alone (cr "BBBB" "1,")))
    ∷ []

pub no_place_for_a_bin : goes no_bin calls_of_bins
    ≡ quiet 4 (10000 ∷ 0 ∷ [])
    ∷ line 87 (reply132 "1" "N1" "PROP0001" "1\r\n:432:87") [] (10000 ∷ 0 ∷ [])
    ∷ line 2 (reply134 "2" "N2" "1\r\n:432:02") [] (10000 ∷ 0 ∷ [])
    ∷ line 0 (reply132 "3" "R0000" "PROP0000" "0\r\n:13E:270203100004" ++ reply132 "4" "N3" "PROP0000" "0\r\n:13E:270203100004") (1 ∷ []) (9900 ∷ 100 ∷ [])
    ∷ []
unfolding goes
no_place_for_a_bin = refl

abbrev noted : String → Entry
noted word = record { code = long_code word; day = 9895 }

pub noted_in_order : take 4 (drop 512 (leaves no_bin calls_of_bins).state.known.references) ≡ noted "N1" ∷ noted "N2" ∷ noted "N3" ∷ no_entry ∷ []
unfolding leaves
noted_in_order = refl
