-- The step of the well, accepted or refused, is that with the entry's letters read as codes.
use Rattle.std.proofs.Common.{◌≡◌, ℕ, List}
use Rattle.std.proofs.lemmas.Result.{err_from_is_err_and}
use Rattle.well.specs.State.{State}
use Rattle.well.specs.Steps.{Call.feed, Outcome, Step}
use Rattle.noise_file.specs.declared.entry.Body.{Body}
use Rattle.noise_file.specs.declared.entry.Entry.{Entry}
use Rattle.noise_file.specs.Entries.{EntryNumbered, body_in, symbols_in}
use Rattle.noise_file.specs.Feeds.{StepOf, size_in}
use Rattle.noise_file.specs.Letters.{code_in}
use Rattle.noise_file.specs.Reading.{ReadAs}
use Rattle.towers.specs.Towers.{pile_of}
use Rattle.noise_file.proofs.file.NoiseFile.feed_numbered.Goals as goal

step_of : (bs : List ℕ) (n k : ℕ) (s s' : State) (o : Outcome) (e : Entry) (b : Body) (size : ℕ) (codes given : List ℕ) → EntryNumbered bs n e
    → ReadAs (size_in (symbols_in e)) (code_in (symbols_in e)) (body_in e).letters.now codes → b ≡ body_in e → size ≡ size_in (symbols_in e) → given ≡ codes
    → Step s (feed (pile_of b.tower) size given k) o s' → StepOf bs n k s o s'
step_of bs n k s s' o e b size codes given at read same_body same_size same_codes step =
    record {
      listed = (at.from_one, at.listed);
      kind = symbols_in e;
      kind_read = at.holds.kind;
      tower = (body_in e).tower;
      tower_read = at.holds.tower;
      letters_fed = record { codes = codes; read = rw at.holds.letters at read; step = rw (same_body, same_size, same_codes) at step };
    }

pub returns-in_err-feed : goal.returns-in_err-feed
returns-in_err-feed c =
    let q = err_from_is_err_and c.from_residual-in_err-feed.result c.from_residual-in_err-feed.ensures.1 in
    rw (q.1, q.2) (step_of _ _ _ _ _ _ _ _ _ _ _ c.in_ok-entry.ensures c.in_ok-codes.ensures c.body.ensures c.size.ensures c.deref.ensures.value c.in_err-feed.ensures.step)

pub returns : goal.returns
returns c = step_of _ _ _ _ _ _ _ _ _ _ _ c.in_ok-entry.ensures c.in_ok-codes.ensures c.body.ensures c.size.ensures c.deref.ensures.value c.in_ok-feed.ensures.step
