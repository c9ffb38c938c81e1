-- Laws of clearing.
use Rattle.std.specs.Prelude.{Ok, Err}
use Prim.Native.Nat.{ℕ}
use mathlib.Core.Path.{◌≡◌, refl, ap, ◌∙◌}
use mathlib.Core.Bool.{Bool, true, false, not}
use mathlib.Core.List.{List}
use lib.ListN.{length, replicate}
use Rattle.chars.specs.Words.{Says}
use Rattle.chars.specs.declared.Refusal.TheVariants.{BrokenTables}
use Rattle.model.specs.declared.Phase.TheVariants.{Fresh}
use Rattle.model.specs.Calls.{cleared}
use Rattle.tables.specs.declared.Desk.{Desk}
use Rattle.tables.specs.House.{Lengths}
use Rattle.tables.specs.Rows.{Tables}
use Rattle.tables.specs.Words.{sheet_length, desk_of, tables_of}
use Rattle.tables.specs.Moment.{lent_on}
use Rattle.tables.specs.Lent.{Cleared, clear_lent}
use Rattle.tables.proofs.TestLaws.{says_no, says_yes}
use Rattle.tables_rules.proofs.whole.Parts.{is_blank_lem, blank_tables}
use Rattle.tables_clear.specs.Clearing.{LongRows, WipedAccounts, WipedRows}

pub no_day : ◌≡◌ {A = Desk} (record { phase = Fresh; date = 0; clock = 0; texts = 0; banks = 0; streams = replicate 16 0; n = 0 }) (desk_of cleared.state)
unfolding desk_of
no_day = refl

zeroed : (n : ℕ) (l m : List ℕ) → length l ≡ n → m ≡ replicate (length l) 0 → m ≡ replicate n 0
zeroed n l m e f = f ∙ ap (λ (k : ℕ). replicate k 0) e

module _ (d : Desk) (codes flags balances sublimits batches references bins sheet : List ℕ) where
  abbrev t : Tables
  t = lent_on codes flags balances sublimits batches references bins sheet

  pub clear_uneven : (b : Bool) → Says (LongRows batches references bins sheet) b → not b ≡ true
      → Cleared d t (record { answer = Err BrokenTables; desk = d; tables = t })
  unfolding clear_lent
  clear_uneven b u e = record {
    long = false;
    says = λ l. says_no b u e (record { batches_long = l.batches; references_long = l.references; bins_long = l.bins; sheet_long = l.sheet });
    is = refl;
  }

  module _ (a : Bool) (s : Says (Lengths codes flags balances sublimits) a) where
    pub clear_short : not a ≡ true → Cleared d t (record { answer = Err BrokenTables; desk = d; tables = t })
    unfolding clear_lent
    clear_short e = record {
      long = false;
      says = λ l. says_no a s e (record { codes_long = l.codes; flags_long = l.flags; balances_long = l.balances; sublimits_long = l.sublimits });
      is = refl;
    }

    module _ (b : Bool) (u : Says (LongRows batches references bins sheet) b) where
      pub clear_done : not a ≡ false → not b ≡ false → (codes' flags' balances' sublimits' batches' references' bins' sheet' : List ℕ) (d' : Desk)
          → WipedAccounts codes flags balances sublimits codes' flags' balances' sublimits'
          → WipedRows batches references bins sheet batches' references' bins' sheet' → d' ≡ desk_of cleared.state
          → Cleared d t (record { answer = Ok tt; desk = d'; tables = lent_on codes' flags' balances' sublimits' batches' references' bins' sheet' })
      unfolding clear_lent
      clear_done e f codes' flags' balances' sublimits' batches' references' bins' sheet' d' x y g =
          let l = says_yes a s e in
          let m = says_yes b u f in
          let h : lent_on codes' flags' balances' sublimits' batches' references' bins' sheet' ≡ tables_of cleared =
          blank_tables (lent_on codes' flags' balances' sublimits' batches' references' bins' sheet')
          (record {
            codes_none = is_blank_lem 64 codes' (zeroed 64 codes codes' l.codes_long x.codes_zero);
            flags_none = is_blank_lem 64 flags' (zeroed 64 flags flags' l.flags_long x.flags_zero);
            balances_none = is_blank_lem 64 balances' (zeroed 64 balances balances' l.balances_long x.balances_zero);
            sublimits_none = is_blank_lem 64 sublimits' (zeroed 64 sublimits sublimits' l.sublimits_long x.sublimits_zero);
          })
          (record {
            batches_none = is_blank_lem 11168 batches' (zeroed 11168 batches batches' m.batches_long y.batches_zero);
            references_none = is_blank_lem 6144 references' (zeroed 6144 references references' m.references_long y.references_zero);
            bins_none = is_blank_lem 1536 bins' (zeroed 1536 bins bins' m.bins_long y.bins_zero);
          })
          (is_blank_lem sheet_length sheet' (zeroed sheet_length sheet sheet' m.sheet_long y.sheet_zero))
          in
          record {
            long = true;
            says = record {
              codes = l.codes_long;
              flags = l.flags_long;
              balances = l.balances_long;
              sublimits = l.sublimits_long;
              batches = m.batches_long;
              references = m.references_long;
              bins = m.bins_long;
              sheet = m.sheet_long;
            };
            is = rw (g, h);
          }
