-- What is told to a sink in pieces.
use Rattle.std.specs.Prelude.{◌≡◌, ◌≢◌, ℕ, ◌++◌, List, [], Bool, true, false, Option, Result, OnOk, OnErr}
use Rattle.std.specs.Io.KnownBytes.{Appends}
use Rattle.byte_transfer.specs.Transfer.{WritesFront}
use Rattle.certificate_pieces.specs.declared.piece.Piece.{Piece}

-- what a sink held at first, where that is known, and how often it had failed
pub record SinkFacts : Type 0 where
  pub contents : Option (List ℕ)
  pub failures : ℕ

-- a front of the text is written, and the rest waits
pub record Waits (start : SinkFacts) (contents : Option (List ℕ)) (failures : ℕ)
    (waiting text : List ℕ) : Type 0 where
  pub written : List ℕ
  pub appended : Appends start.contents contents written
  pub whole : written ++ waiting ≡ text
  pub worked : failures ≡ start.failures

-- the sink has failed, and nothing but a prefix of the text is written
pub record Ended (start : SinkFacts) (contents : Option (List ℕ)) (failures : ℕ)
    (text : List ℕ) : Type 0 where
  pub front : WritesFront start.contents contents text
  pub failed : failures ≢ start.failures

-- a text was told, since the sink was so
pub record HasTold (start : SinkFacts) (contents : Option (List ℕ)) (failures : ℕ) (piece : Piece)
    (text : List ℕ) : Type 0 where
  pub waits : piece.is_failed ≡ false → Waits start contents failures piece.waiting.items text
  pub ended : piece.is_failed ≡ true → Ended start contents failures text

-- a text is told behind what was told
pub record Tells (old_contents : Option (List ℕ)) (old_failures : ℕ) (old : Piece)
    (contents : Option (List ℕ)) (failures : ℕ) (new : Piece) (text : List ℕ) : Type 0 where
  pub tells : (start : SinkFacts) (before : List ℕ)
      → HasTold start old_contents old_failures old before
      → HasTold start contents failures new (before ++ text)

-- nothing waits, and no sink has failed
pub record IsEmpty (piece : Piece) : Type 0 where
  pub none : piece.waiting.items ≡ []
  pub working : piece.is_failed ≡ false

-- bytes were put behind those that wait, or there was no room for them
pub record Takes (taken : Bool) (old new : Piece) (bytes : List ℕ) : Type 0 where
  pub more : taken ≡ true → new.waiting.items ≡ old.waiting.items ++ bytes
  pub full : taken ≡ false → new.waiting.items ≡ old.waiting.items
  pub same : new.is_failed ≡ old.is_failed

-- a text was written since the sink was so, or the sink failed and a prefix was
pub record WritesAll {E : Type 0} (result : Result (Unit {0}) E) (start : SinkFacts)
    (contents : Option (List ℕ)) (failures : ℕ) (text : List ℕ) : Type 0 where
  pub written : OnOk result (Appends start.contents contents text)
  pub front : OnErr result (WritesFront start.contents contents text)
  pub worked : OnOk result (failures ≡ start.failures)
  pub failed : OnErr result (failures ≢ start.failures)
