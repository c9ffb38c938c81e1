use Rattle.call.proofs.action.ActLaws.{opening_deed, tick_deed, close_deed, book_deed, message_deed, sublimit_deed, status_deed, still}
use Rattle.call.proofs.action.acts.act.Goals as goal

pub receive-requires : goal.receive-requires
receive-requires c = record { actable = c.requires.actable; n_bound = (c.requires.n_bound.0, c.requires.n_bound.2, c.requires.n_bound.3) }

pub status-answer-requires : goal.status-answer-requires
status-answer-requires c = (c.requires.actable.ready, c.requires.actable.stood, c.requires.actable.in_codes)

pub returns-in-Message : goal.returns-in-Message
returns-in-Message c = λ n. message_deed _ c.args.input.now _ _ _ _ _ _ _ _ _ _ _ _ c.requires.actable c.args.action n _ _ _ _ _ _ _ _ _ _ _ _ _ c.in-Message.is c.receive.ensures

pub returns-in-SubLimit : goal.returns-in-SubLimit
returns-in-SubLimit c = λ n. still _ c.args.input.now _ _ _ _ _ _ _ _ _ _ _ _ c.requires.actable c.args.action n _ _ _ _ _ _ _ _ _ (sublimit_deed _ c.args.input.now _ _ _ _ _ _ _ _ _ _ _ _ c.requires.actable c.args.action n _ _ _ _ _ c.in-SubLimit.is c.sub_limit-answer.ensures) c.quiet.ensures

pub returns-in-Status : goal.returns-in-Status
returns-in-Status c = λ n. still _ c.args.input.now _ _ _ _ _ _ _ _ _ _ _ _ c.requires.actable c.args.action n _ _ _ _ _ _ _ _ _ (status_deed _ c.args.input.now _ _ _ _ _ _ _ _ _ _ _ _ c.requires.actable c.args.action n _ _ _ _ _ _ c.in-Status.is c.status-answer.ensures) c.quiet-in-Status.ensures

pub returns-in-Opening : goal.returns-in-Opening
returns-in-Opening c = λ n. still _ c.args.input.now _ _ _ _ _ _ _ _ _ _ _ _ c.requires.actable c.args.action n _ _ _ _ _ _ _ _ _ (opening_deed _ c.args.input.now _ _ _ _ _ _ _ _ _ _ _ _ c.requires.actable c.args.action n c.in-Opening.is) c.quiet-in-Opening.ensures

pub returns-in-Tick : goal.returns-in-Tick
returns-in-Tick c = λ n. still _ c.args.input.now _ _ _ _ _ _ _ _ _ _ _ _ c.requires.actable c.args.action n _ _ _ _ _ _ _ _ _ (tick_deed _ c.args.input.now _ _ _ _ _ _ _ _ _ _ _ _ c.requires.actable c.args.action n c.in-Tick.is) c.quiet-in-Tick.ensures

pub returns-in-Close : goal.returns-in-Close
returns-in-Close c = λ n. still _ c.args.input.now _ _ _ _ _ _ _ _ _ _ _ _ c.requires.actable c.args.action n _ _ _ _ _ _ _ _ _ (close_deed _ c.args.input.now _ _ _ _ _ _ _ _ _ _ _ _ c.requires.actable c.args.action n c.in-Close.is) c.quiet-in-Close.ensures

pub returns-in-ClosingBook : goal.returns-in-ClosingBook
returns-in-ClosingBook c = λ n. still _ c.args.input.now _ _ _ _ _ _ _ _ _ _ _ _ c.requires.actable c.args.action n _ _ _ _ _ _ _ _ _ (book_deed _ c.args.input.now _ _ _ _ _ _ _ _ _ _ _ _ c.requires.actable c.args.action n _ c.in-ClosingBook.is) c.quiet-in-ClosingBook.ensures
