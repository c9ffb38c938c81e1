-- 16A, 171 and 175 of a settlement request.
use Rattle.std.specs.Prelude.{ℕ, List, Result, Ok, Err}
use Rattle.chars.specs.Words.{bytes}
use Rattle.text_scan.specs.Scan.{on_next, lit_at}
use Rattle.text_scan.specs.declared.Cursor.{Cursor}
use Rattle.text_values.specs.Values.{no_part, text_of, count_in}
use Rattle.text_values.specs.declared.Part.{Part}
use Rattle.text_fields.specs.Fields.{absent, nothing, place, on_good, field_at}
use Rattle.text_fields.specs.declared.Break.{Break}
use Rattle.text_fields.specs.declared.Item.{Item}
use Rattle.text_fields.specs.declared.Kind.TheVariants.{Numbers, Date, Time}
use Rattle.request_read.specs.declared.terms.Activation.{Activation}
use Rattle.request_read.specs.declared.terms.Activation.TheVariants.{AtOnce, Minute}
use Rattle.request_read.specs.declared.terms.Terms.{Terms}

-- 175: "activation HHMM, 00 to 23 and 00 to 59; the line may be missing"
unfoldable pub activation_at : List ℕ → ℕ → Result (Activation × Part × Cursor) Break
activation_at s at =
    on_next (lit_at s at (bytes ":175:")) (Ok (AtOnce, no_part, place at)) (λ a.
    on_good (field_at s at (bytes ":175:") Time) Err (λ i c.
    Ok (Minute i.number, i.part, c)))

abbrev pub on_given : {A : Type 0} → Result (Activation × Part × Cursor) Break → (Break → A) → (Activation → Part → Cursor → A) → A
on_given (Ok (m, p, c)) d k = k m p c
on_given (Err b) d k = d b

-- 16A: "nn/nn: number, count"
abbrev pub terms : List ℕ → Item → Item → Activation → Part → Terms
terms s i date m p = record { numbers = i.part; number = i.number; count = count_in (text_of s i.part); date = date; activation = m; activated = p }

-- of a text that has none
abbrev pub no_terms : Terms
no_terms = record { numbers = no_part; number = 0; count = 0; date = nothing; activation = AtOnce; activated = no_part }

unfoldable pub terms_at : List ℕ → ℕ → Result (Terms × Cursor) Break
terms_at s at =
    on_good (field_at s at (bytes ":16A:") Numbers) Err (λ i c.
    on_good (field_at s c.at (bytes ":171:") Date) Err (λ date d.
    on_given (activation_at s d.at) Err (λ m p e.
    Ok (terms s i date m p, e))))

abbrev pub unstated : Result (Terms × Cursor) Break → Break
unstated (Ok (t, c)) = absent 0
unstated (Err b) = b

abbrev pub on_whole : {A : Type 0} → Result (Terms × Cursor) Break → (Break → A) → (Terms → Cursor → A) → A
on_whole (Ok (t, c)) d k = k t c
on_whole (Err b) d k = d b
