-- Where the well is ready, an entry of an accepted file is refused only for want of memory.
use Rattle.std.proofs.Common.{◌≡◌, ℕ, ◌⊎◌, List, ap, inl, inr}
use Rattle.well.specs.declared.fault.WellFault.{WellFault}
use Rattle.well.specs.State.{State}
use Rattle.noise_file.specs.declared.fault.FileFault.{FileFault}
use Rattle.noise_file.specs.declared.fault.FileFault.TheVariants as file
use Rattle.noise_file.specs.declared.fault.FeedFault.{FeedFault}
use Rattle.noise_file.specs.declared.fault.FeedFault.TheVariants.{File, Well}
use Rattle.noise_file.specs.Feeds.{Listed, RefusedFeed, refusal_of}
use Rattle.noise_file.specs.Opened.{Accepted}
use Rattle.clean.specs.Cleaning.{tray_room, Ready}
use Rattle.clean.proofs.Rooms.{entry_refused}

module _ (bs : List ℕ) (accepted : Accepted bs) (n : ℕ) (s : State) (ready : Ready bs n s) where
  pub feed_wants : (s' : State) (f : FeedFault) → RefusedFeed bs n tray_room s f s' → (refusal_of f).number ≡ 0
  feed_wants s' (File f) r = at r.1
    where
      at : ((Listed bs n → ⊥) × (f ≡ file.Number n)) ⊎ (Listed bs n × (f ≡ file.Memory)) → (refusal_of (File f)).number ≡ 0
      at (inl a) = elim (a.0 ready.listed) [ ]
      at (inr a) = ap (λ (e : FileFault). (refusal_of (File e)).number) a.1
  feed_wants s' (Well f) r = ap (λ (e : WellFault). (refusal_of (Well e)).number) (entry_refused bs accepted n s s' f ready r)
