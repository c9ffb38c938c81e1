-- An entry that was written is right where it stands, and is read as what was written.
use Prim.Native.Nat.{ℕ, zero, suc, ◌+◌, ◌*◌, ◌/◌, ◌%◌, ◌^◌, ◌≤◌, ◌<◌}
use mathlib.Core.Path.{◌≡◌, refl, sym, ◌∙◌, ap}
use mathlib.Core.Bool.{Bool, true}
use mathlib.Core.List.{List, [], ◌∷◌, ◌++◌, append_assoc}
use native.Mathlib.Nat.{add-zero, pow-succ'}
use native.Mathlib.Omega.{arith}
use lib.ListN.{get_or, take, drop}
use lib.Seq.{get_or-drop, take_at}
use lib.Dec.{ltb}
use borrow.Author.Tests.{eq-eqb, le-leb}
use Rattle.chars.specs.Chars.{is_code}
use Rattle.codes.specs.Codes.{packed, short_end, short_at, unpacked, short_text}
use Rattle.codes.proofs.Laws.{pack_take, pack_unpack, unpack_length}
use Rattle.text_scan.specs.Spelling.{All}
use Rattle.text_scan.proofs.Standing.{code_reads}
use Rattle.book_read.specs.Block.{little, zeros_at}
use Rattle.book_read.specs.Book.{most_money, code_right, stream_right, bits_past, bank_right}
use Rattle.book_read.specs.Accounts.{Stream, Bank, stream_at, bank_at}
use Rattle.book_write.specs.Closing.{little_of, stream_bytes, bank_bytes}
use Rattle.book_read.specs.Range.{all_are, is_short}
use Rattle.book_read.proofs.Accepted.{both}
use Rattle.book_write.proofs.Storing.{short_length, little_length}
use Rattle.book_read.proofs.Ranging.{RightStream, RightBank}
use Rattle.thm_books_back.proofs.Blocks.{little_of_lem, begins_at, after}
use Rattle.thm_books_back.specs.Fitting.{FitStream, FitBank}
use Rattle.thm_books_back.proofs.Fits.{stream_fits, bank_fits}

-- one byte where it stands
byte_stands : (s : List ℕ) (at x : ℕ) (r : List ℕ) → drop at s ≡ x ∷ r → get_or s at 0 ≡ x
byte_stands s at x r h = ap (λ (k : ℕ). get_or s k 0) (sym (add-zero at)) ∙ sym (get_or-drop at s 0 0) ∙ ap (λ (l : List ℕ). get_or l 0 0) h

are_all : (is : ℕ → Bool) (l : List ℕ) → all_are is l ≡ true → All is l
are_all is [] h = tt
are_all is (x ∷ l) h = let t = both (is x) (all_are is l) h in (t.0, are_all is l t.1)

-- a code
module _ (s : List ℕ) (at c : ℕ) (r : List ℕ) (h : drop at s ≡ short_text c ++ r) where
  code_stands : is_short c ≡ true → code_right s at ≡ true
  code_stands short =
      let a = are_all is_code (short_text c) (both (ltb c short_end) _ short).1 in
      rw (rw (short_length c) at (code_reads s at (short_text c) r h a))

  code_back : c < short_end → short_at s at ≡ c
  unfolding short_at short_text
  code_back small =
      sym (pack_take 4 0 (drop at s))
      ∙ ap (packed 4) (ap (take 4) h ∙ take_at (unpacked 4 c) r 4 (unpack_length 4 c))
      ∙ pack_unpack 4 c small

-- a stream
module _ (s : List ℕ) (x : Stream) (at : ℕ) (r : List ℕ) (h : drop at s ≡ stream_bytes x ++ r) where
  abbrev sent : ℕ
  sent = x.sender % 256

  in_stream : drop at s ≡ short_text x.code ++ (sent ∷ 0 ∷ 0 ∷ 0 ∷ r)
  unfolding stream_bytes
  in_stream = h ∙ append_assoc (short_text x.code) (sent ∷ 0 ∷ 0 ∷ 0 ∷ []) r

  in_sender : drop (at + 4) s ≡ sent ∷ 0 ∷ 0 ∷ 0 ∷ r
  in_sender = after s at 4 (short_text x.code) (sent ∷ 0 ∷ 0 ∷ 0 ∷ r) in_stream (short_length x.code)

  sender_back : x.sender < 256 → get_or s (at + 4) 0 ≡ x.sender
  sender_back small = byte_stands s (at + 4) sent (0 ∷ 0 ∷ 0 ∷ r) in_sender ∙ omega arith

  pub stream_reads : FitStream x → stream_at s at ≡ x
  stream_reads t = rw (code_back s at x.code _ in_stream t.code, sender_back t.sender)

  pub stream_holds : RightStream x → stream_right s at ≡ true
  unfolding stream_right zeros_at
  stream_holds t =
      let five : at + 4 + 1 ≡ at + 5 = omega arith in
      let h₅ : drop (at + 5) s ≡ (0 ∷ 0 ∷ 0 ∷ []) ++ r = rw five at (after s (at + 4) 1 (sent ∷ []) (0 ∷ 0 ∷ 0 ∷ r) in_sender refl) in
      rw (
        code_stands s at x.code _ in_stream t.code,
        sender_back (stream_fits x t).sender,
        le-leb 1 x.sender t.sender.0,
        le-leb x.sender 255 t.sender.1,
      )
      (begins_at s (at + 5) (0 ∷ 0 ∷ 0 ∷ []) r h₅)

-- no bit stands past the first n
bits_none : (n bits : ℕ) → bits < 2 ^ n → bits_past n bits ≡ 0
unfolding bits_past
bits_none zero bits h = omega arith
bits_none (suc n) bits h = bits_none n (bits / 2) (omega (arith, pow-succ' 2 n))

-- a bank
module _ (s : List ℕ) (x : Bank) (at : ℕ) (r : List ℕ) (h : drop at s ≡ bank_bytes x ++ r) where
  abbrev flag : ℕ
  flag = x.flags % 2

  abbrev bits : ℕ
  bits = x.flags / 2 % 256

  abbrev money : List ℕ
  money = little_of 8 x.balance

  abbrev sublimit : List ℕ
  sublimit = little_of 8 x.sublimit

  in_bank : drop at s ≡ short_text x.code ++ (flag ∷ bits ∷ 0 ∷ 0 ∷ (money ++ (sublimit ++ r)))
  unfolding bank_bytes
  in_bank =
      let code = short_text x.code in
      h ∙ append_assoc ((code ++ (flag ∷ bits ∷ 0 ∷ 0 ∷ [])) ++ money) sublimit r
      ∙ append_assoc (code ++ (flag ∷ bits ∷ 0 ∷ 0 ∷ [])) money (sublimit ++ r)
      ∙ append_assoc code (flag ∷ bits ∷ 0 ∷ 0 ∷ []) (money ++ (sublimit ++ r))

  in_flag : drop (at + 4) s ≡ flag ∷ bits ∷ 0 ∷ 0 ∷ (money ++ (sublimit ++ r))
  in_flag = after s at 4 (short_text x.code) (flag ∷ bits ∷ 0 ∷ 0 ∷ (money ++ (sublimit ++ r))) in_bank (short_length x.code)

  in_bits : drop (at + 5) s ≡ bits ∷ 0 ∷ 0 ∷ (money ++ (sublimit ++ r))
  in_bits =
      let five : at + 4 + 1 ≡ at + 5 = omega arith in
      rw five at (after s (at + 4) 1 (flag ∷ []) (bits ∷ 0 ∷ 0 ∷ (money ++ (sublimit ++ r))) in_flag refl)

  in_zeros : drop (at + 6) s ≡ (0 ∷ 0 ∷ []) ++ (money ++ (sublimit ++ r))
  in_zeros =
      let six : at + 5 + 1 ≡ at + 6 = omega arith in
      rw six at (after s (at + 5) 1 (bits ∷ []) (0 ∷ 0 ∷ (money ++ (sublimit ++ r))) in_bits refl)

  in_money : drop (at + 8) s ≡ money ++ (sublimit ++ r)
  in_money =
      let eight : at + 6 + 2 ≡ at + 8 = omega arith in
      rw eight at (after s (at + 6) 2 (0 ∷ 0 ∷ []) (money ++ (sublimit ++ r)) in_zeros refl)

  in_sublimit : drop (at + 16) s ≡ sublimit ++ r
  in_sublimit =
      let sixteen : at + 8 + 8 ≡ at + 16 = omega arith in
      rw sixteen at (after s (at + 8) 8 money (sublimit ++ r) in_money (little_length 8 x.balance))

  flag_back : get_or s (at + 4) 0 ≡ flag
  flag_back = byte_stands s (at + 4) flag _ in_flag

  module _ (t : FitBank x) where
    bits_back : get_or s (at + 5) 0 ≡ x.flags / 2
    bits_back = byte_stands s (at + 5) bits _ in_bits ∙ omega (arith, t.bits)

    money_back : little 8 (drop (at + 8) s) ≡ x.balance
    money_back = ap (little 8) in_money ∙ little_of_lem 8 x.balance (sublimit ++ r) t.balance

    sublimit_back : little 8 (drop (at + 16) s) ≡ x.sublimit
    sublimit_back = ap (little 8) in_sublimit ∙ little_of_lem 8 x.sublimit r t.sublimit

    pub bank_reads : bank_at s at ≡ x
    bank_reads =
        let whole : flag + 2 * (x.flags / 2) ≡ x.flags = omega arith in
        rw (code_back s at x.code _ in_bank t.code, flag_back, bits_back, whole, money_back, sublimit_back)

  pub bank_holds : (streams : ℕ) → streams ≤ 8 → RightBank streams x → bank_right s streams at ≡ true
  unfolding bank_right zeros_at
  bank_holds streams few t =
      let f = bank_fits streams few x t in
      rw (
        code_stands s at x.code _ in_bank t.code,
        flag_back,
        le-leb flag 1 (omega arith),
        bits_back f,
        eq-eqb (bits_past streams (x.flags / 2)) 0 (bits_none streams (x.flags / 2) t.flags),
        begins_at s (at + 6) (0 ∷ 0 ∷ []) _ in_zeros,
        money_back f,
        le-leb x.balance most_money t.balance,
        sublimit_back f,
        le-leb x.sublimit most_money t.sublimit,
      )
