-- (c): each action leaves in the rows what the model's action leaves.
use Rattle.std.specs.Prelude.{Ok}
use Prim.Native.Nat.{ℕ}
use mathlib.Core.Path.{◌≡◌, refl, sym, ap, subst}
use mathlib.Core.List.{List, []}
use Rattle.codes.specs.declared.Code.{Code}
use Rattle.request_read.specs.whole.Request.{request_at}
use Rattle.request_read.specs.declared.whole.Reading.{Reading}
use Rattle.settle.specs.Settlement.{Accounts, accounts}
use Rattle.model.specs.Answers.{Answer}
use Rattle.model.specs.declared.Action.{Action}
use Rattle.model.specs.declared.Action.TheVariants.{Opening, Message, SubLimit, Status, Tick, Close, ClosingBook}
use Rattle.model.specs.State.{Known, State}
use Rattle.model.specs.Replies.{Reply}
use Rattle.model.specs.Messages.{Acted, leaving, message}
use Rattle.model.specs.Changes.{sub_limit, status}
use Rattle.model.specs.Calls.{woken, act}
use Rattle.model.proofs.Doing.{Told, idle, alone, repeats, recalls, completes, grows, rejects, did_message}
use Rattle.tables.specs.declared.Desk.{Desk}
use Rattle.call_orders.specs.Stages.{seen, Ready}
use Rattle.call_texts.specs.Writing.{Wrote}
use Rattle.call_texts.proofs.Laws.{wrote_none}
use Rattle.call_message.specs.outcome.Doing.{state_on, Actable}
use Rattle.call_message.specs.receive.Messaging.{known_in, Received}
use Rattle.call_change.specs.Changing.{Changed}
use Rattle.call.specs.action.Working.{middle, acted_in, Carried}

-- a message touches no account
told_books : (s : State) (r : Reading) {a : Acted} → Told s r a → a.books ≡ s.books
told_books s r (idle n) = refl
told_books s r (alone n y q w) = refl
told_books s r (repeats p c f i) = refl
told_books s r (recalls p f n w) = refl
told_books s r (completes i b k p x j h e f) = refl
told_books s r (grows i b k p x j h e) = refl
told_books s r (rejects f b k p x j) = refl

module _ (d : Desk) (input codes flags sublimits t q : List ℕ) (nq : ℕ) (w : List ℕ) (nw : ℕ) (rs bs m out : List ℕ)
    (k : Actable d codes flags t q nq w nw out) (x : Action) (balances : List ℕ) where
  abbrev s : State
  s = middle d codes flags balances sublimits t q nq w nw rs bs

  abbrev a : Acted
  a = acted_in d x input codes flags balances sublimits t q nq w nw rs bs

  -- ---- an action without a change

  idle_deed : a ≡ leaving s (Ok tt) [] [] s.batches s.known → Carried a balances m out d.texts (Ok tt) sublimits t q nq w nw m out 0 d.texts rs bs
  unfolding woken
  idle_deed e =
      rw e
      (record {
        rows = record { answered = refl; batches = record { ready = k.ready; is = refl }; memory = refl; replies = wrote_none out 0 d.texts };
        books = refl;
        known = record { references = refl; bins = refl };
      })

  pub opening_deed : x ≡ Opening → Carried a balances m out d.texts (Ok tt) sublimits t q nq w nw m out 0 d.texts rs bs
  unfolding act
  opening_deed e = idle_deed (rw e)

  pub tick_deed : x ≡ Tick → Carried a balances m out d.texts (Ok tt) sublimits t q nq w nw m out 0 d.texts rs bs
  unfolding act
  tick_deed e = idle_deed (rw e)

  pub close_deed : x ≡ Close → Carried a balances m out d.texts (Ok tt) sublimits t q nq w nw m out 0 d.texts rs bs
  unfolding act
  close_deed e = idle_deed (rw e)

  pub book_deed : (date : ℕ) → x ≡ ClosingBook date → Carried a balances m out d.texts (Ok tt) sublimits t q nq w nw m out 0 d.texts rs bs
  unfolding act
  book_deed date e = idle_deed (rw e)

  -- ---- a message

  pub message_deed : (sender : ℕ) (answer : Answer) (t₁ q₁ : List ℕ) (nq₁ : ℕ) (w₁ : List ℕ) (nw₁ : ℕ) (m₁ out₁ : List ℕ) (at₁ texts₁ : ℕ) (rs₁ bs₁ : List ℕ)
      → x ≡ Message sender
      → ((n : Accounts) → Received (message (state_on d codes flags (seen t q nq w nw) n (known_in rs bs)) sender (request_at input)) m out d.texts answer t₁ q₁ nq₁ w₁ nw₁ m₁ out₁ at₁ texts₁ rs₁ bs₁)
      → Carried a balances m out d.texts answer sublimits t₁ q₁ nq₁ w₁ nw₁ m₁ out₁ at₁ texts₁ rs₁ bs₁
  unfolding act
  message_deed sender answer t₁ q₁ nq₁ w₁ nw₁ m₁ out₁ at₁ texts₁ rs₁ bs₁ e h =
      let g = h (accounts balances sublimits) in
      rw e (record { rows = g.rows; books = told_books s (request_at input) (did_message s (request_at input) sender); known = g.known })

  -- ---- changes

  changed_rows : (b : Acted) (answer : Answer) (limits₁ t₁ m₁ : List ℕ) → Ready t₁ q nq w nw → Changed s b answer (seen t₁ q nq w nw) limits₁ m m₁
      → Carried b balances m out d.texts answer limits₁ t₁ q nq w nw m₁ out 0 d.texts rs bs
  changed_rows b answer limits₁ t₁ m₁ r h = record {
    rows = record {
      answered = h.answered;
      batches = record { ready = r; is = h.batches };
      memory = h.memory;
      replies = subst (λ (l : List Reply). Wrote out 0 d.texts l out 0 d.texts) (sym h.replies) (wrote_none out 0 d.texts);
    };
    books = sym h.books;
    known = record { references = ap (λ (z : Known). z.references) (sym h.known); bins = ap (λ (z : Known). z.bins) (sym h.known) };
  }

  pub sublimit_deed : (code cents : ℕ) (answer : Answer) (limits₁ m₁ : List ℕ) → x ≡ SubLimit code cents
      → ((z : State) → z.house.banks ≡ d.banks → z.house.codes ≡ codes → z.books.sublimits ≡ sublimits → Changed z (sub_limit z code cents) answer z.batches limits₁ m m₁)
      → Carried a balances m out d.texts answer limits₁ t q nq w nw m₁ out 0 d.texts rs bs
  unfolding act
  sublimit_deed code cents answer limits₁ m₁ e h = rw e (changed_rows (sub_limit s code cents) answer limits₁ t m₁ k.ready (h s refl refl refl))

  pub status_deed : (code : ℕ) (bin : Code) (letter : ℕ) (answer : Answer) (t₁ m₁ : List ℕ) → x ≡ Status code bin letter
      → Ready t₁ q nq w nw
      × ((z : State) → z.house.banks ≡ d.banks → z.house.codes ≡ codes → z.batches ≡ seen t q nq w nw → Changed z (status z code bin letter) answer (seen t₁ q nq w nw) z.books.sublimits m m₁)
      → Carried a balances m out d.texts answer sublimits t₁ q nq w nw m₁ out 0 d.texts rs bs
  unfolding act
  status_deed code bin letter answer t₁ m₁ e h = rw e (changed_rows (status s code bin letter) answer sublimits t₁ m₁ h.0 (h.1 s refl refl refl))

  -- an action without texts tells no more
  pub still : (answer answer' : Answer) (limits₁ t₁ m₁ : List ℕ) (nq' nw' at' texts' : ℕ)
      → Carried a balances m out d.texts answer limits₁ t₁ q nq w nw m₁ out 0 d.texts rs bs
      → (answer' ≡ answer) × (nq' ≡ nq) × (nw' ≡ nw) × (at' ≡ 0) × (texts' ≡ d.texts)
      → Carried a balances m out d.texts answer' limits₁ t₁ q nq' w nw' m₁ out at' texts' rs bs
  still answer answer' limits₁ t₁ m₁ nq' nw' at' texts' h e = rw (e.0, e.1, e.2, e.3, e.4) h
