-- How the calls end that open a collection, and copy one.
use Rattle.std.specs.Prelude.{◌≡◌, Option, Some, ℕ}
use Rattle.node_limits.specs.declared.limits.Limits.{Limits}
use Rattle.live_book.specs.declared.object.Object.{Object}
use Rattle.live_book.specs.declared.object.Object.TheVariants.{Collection, Platform, Snapshot}
use Rattle.live_book.specs.Collection.{CollectionFacts, new_within}
use Rattle.live_book.specs.Snapshot.{IsCopyOf, SnapshotFacts}
use Rattle.live_calls.specs.Behind.{IsNoCollection, IsNoPlatform}
use Rattle.negotiation_inputs.specs.Platform.{PlatformFacts}

-- a new collection with limits, for an allocator's platform, comes behind a handle
pub data Opens (limits : Limits) (allocator old new : Option Object) : ℕ → Type 0 where
  opens : (p : PlatformFacts) → allocator ≡ Some (Platform p)
      → new ≡ Some (Collection (new_within limits p)) → Opens limits allocator old new 0
  open_starves : (p : PlatformFacts) → allocator ≡ Some (Platform p) → new ≡ old
      → Opens limits allocator old new 4
  open_misused : IsNoPlatform allocator → new ≡ old → Opens limits allocator old new 2

-- a copy of a collection comes behind a handle
pub data Copies (behind old new : Option Object) : ℕ → Type 0 where
  copies : (c : CollectionFacts) (s : SnapshotFacts) → behind ≡ Some (Collection c)
      → new ≡ Some (Snapshot s) → IsCopyOf c s → Copies behind old new 0
  copy_starves : (c : CollectionFacts) → behind ≡ Some (Collection c) → new ≡ old
      → Copies behind old new 4
  copy_misused : IsNoCollection behind → new ≡ old → Copies behind old new 2
