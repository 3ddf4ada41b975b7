-- The decisions of all entries are written.
use Rattle.std.proofs.Common.{◌≡◌, ◌+◌, ◌∙◌, ◌++◌, ◌∷◌, [], List, Some, ap, append-nil, map, slice_get, subst, sym, take}
use Rattle.std.specs.Prelude.{flat_map}
use Rattle.std.proofs.lemmas.Grind.{flat_map-append}
use Rattle.std.proofs.lemmas.List.{take_all}
use Rattle.std.proofs.lemmas.Option.{slice_get-get_or}
use Rattle.certificate_text.specs.Certificate.{HasTaken, certificate_text}
use Rattle.live_script.specs.Texts.{certified_of}
use Rattle.live_script.proofs.Entries.{entry_at, mapped_more}
use Rattle.live_script.proofs.Growing.{if_ok, its_domain}
use Rattle.serde_json.specs.Data.{Data}
use Rattle.sysmem_alloc.specs.Entry.{BookEntry, entry_in}
use Rattle.live_script.proofs.certificate.certificate_of.Goals as goal

one_more : (g : BookEntry → List Data) (es : List BookEntry) (e : BookEntry) → flat_map g (es ++ e ∷ []) ≡ flat_map g es ++ g e
one_more g es e = flat_map-append g es (e ∷ []) ∙ ap (λ ds. flat_map g es ++ ds) (append-nil (g e))

pub loop-entry-preserved : goal.loop-entry-preserved
loop-entry-preserved c =
    let raw = c.history-history.result.now in
    let f = entry_in c.args.snapshot.now.tree.nodes in
    let g = certified_of c.args.snapshot.now.platform c.args.snapshot.now.tree.nodes in
    let entry = c.entry-item.result in
    let here : slice_get raw c.loop-entry.entry-index ≡ Some entry = slice_get-get_or raw c.loop-entry.entry-index entry c.loop-entry-test.true ∙ ap Some (sym c.entry-item.is) in
    let more : flat_map g (map f (take (c.loop-entry.entry-index + 1) raw)) ≡ flat_map g (map f (take c.loop-entry.entry-index raw)) ++ g (f entry) =
    ap (flat_map g) (mapped_more f raw c.loop-entry.entry-index entry here) ∙ one_more g (map f (take c.loop-entry.entry-index raw)) (f entry) in
    let before : HasTaken c.loop-entry.writer (flat_map g (map f (take c.loop-entry.entry-index raw))) = record { tokens = c.loop-entry.invariant.tokens; before = c.loop-entry.invariant.before } in
    subst (HasTaken c.put_entry.new.writer) (sym more) (c.in_ok-put_entry.ensures (flat_map g (map f (take c.loop-entry.entry-index raw))) before)

pub put_entry-requires : goal.put_entry-requires
put_entry-requires c =
    let raw = c.history-history.result.now in
    let f = entry_in c.args.snapshot.now.tree.nodes in
    its_domain c.legal_is_sound.ensures c.numbers_stay.ensures c.args.snapshot.now.platform c.args.snapshot.now.history c.args.snapshot.now.tree c.loop-entry.entry-index (f c.entry-item.result) c.recall_settled.ensures.led
    (entry_at f raw c.args.snapshot.now.history c.loop-entry.entry-index c.entry-item.result c.loop-entry-test.true c.entry-item.is c.history-history.ensures)

pub returns : goal.returns
returns c =
    let raw = c.history-history.result.now in
    let f = entry_in c.args.snapshot.now.tree.nodes in
    let g = certified_of c.args.snapshot.now.platform c.args.snapshot.now.tree.nodes in
    let es = map f (take c.loop-entry.entry-index raw) in
    let before : HasTaken c.loop-entry.writer (flat_map g es) = record { tokens = c.loop-entry.invariant.tokens; before = c.loop-entry.invariant.before } in
    let whole : certificate_text (flat_map g es) ≡ certificate_text (flat_map g c.args.snapshot.now.history) =
    ap (λ xs. certificate_text (flat_map g xs)) (ap (map f) (take_all c.loop-entry.entry-index raw c.loop-entry-test.false) ∙ c.history-history.ensures) in
    if_ok c.finish.result (λ text e. e ∙ whole) (c.finish.ensures (flat_map g es) before)
