-- Two audits that said yes.
use Rattle.std.proofs.Common.{◌≡◌, ◌<◌, false, List, [], ◌∷◌, None, Some, length, slice_get, get_or, sym, ◌∙◌, ap, subst, arith}
use Rattle.std.specs.Prelude.{IfSome, IsSomeAnd}
use Rattle.std.specs.List.{AllByRecursion}
use Rattle.negotiation_inputs.specs.Platform.{PlatformFacts}
use Rattle.sysmem_tree.specs.ActionKind.{kind_of}
use Rattle.sysmem_tree.specs.History.{is_close}
use Rattle.sysmem_tree.specs.Node.{NodeFacts}
use Rattle.sysmem_tree.specs.Path.{node_at}
use Rattle.sysmem_alloc.specs.Book.{BookFacts, IsBook}
use Rattle.sysmem_alloc.specs.Laws.{LegalIsSound}
use Rattle.sysmem_room.specs.declared.outcome.Outcome.{Outcome}
use Rattle.sysmem_participants.specs.declared.faults.Audit.{Audit}
use Rattle.sysmem_participants.specs.Audit.{AgreesWith, AreFor, AreRead, IsRead}
use Rattle.sysmem_participants.specs.Held.{Left}
use Rattle.sysmem_participants.specs.Laws.{AreAmong, AreOpen, AuditsAgree, GotOneVerdict, IsInitial, IsLike, TwoAuditsAgree}
use Rattle.sysmem_participants.proofs.Audited.{is_sound, none_left}

-- stubs that were read have the paths and the calls that they had
read_among : (ss ts us vs : List Left) → AreRead ss us → AreRead ts vs → AreAmong ss ts → AreAmong us vs
read_among ss ts us vs read also among k d less =
    let below : k < length ss = omega (arith, less, read.many) in
    let (j, within, like) = among k d below in (
      j,
      omega (arith, within, also.many),
      λ e.
          let alike : IsLike (get_or ss k d) (get_or ts j e) = like e in
          let one : IsRead (get_or ss k d) (get_or us k d) = read.each k d below in
          let two : IsRead (get_or ts j e) (get_or vs j e) = also.each j e within in
          record { path = two.path ∙ (alike.path ∙ sym one.path); deeds = two.deeds ∙ (alike.deeds ∙ sym one.deeds) },
    )

-- of stubs whose cells were read as many were closed
pub read_open : (ss us : List Left) → AreRead ss us → AreOpen ss → AreOpen us
read_open ss us read are k d less =
    let below : k < length ss = omega (arith, less, read.many) in
    let one : IsRead (get_or ss k d) (get_or us k d) = read.each k d below in
    subst (AllByRecursion (λ deed. is_close (kind_of deed) ≡ false)) (sym one.deeds) (are k d below)

read_initial : (b : BookFacts) (s t : Left) → IsRead s t → IsInitial b s → IsInitial b t
read_initial b s t read (i, at, home) = (i, ap (node_at b.state.tree.nodes) read.path ∙ at, home)

read_known : (s t : Left) (o : Outcome) → IsRead s t → s.known ≡ Some o → t.known ≡ Some o
read_known s t o read knows = subst (λ k. IfSome k (λ x. t.known ≡ Some x)) knows read.known

some_there : (P : NodeFacts → Type 0) (nodes : List NodeFacts) → IsSomeAnd (slice_get nodes 0) P → 0 < length nodes
some_there P [] is = absurd is
some_there P (n ∷ nodes) is = omega arith

-- a book with which stubs of a platform agree is for that
one_platform : LegalIsSound → (b : BookFacts) (ss : List Left) (a : Audit) (platform : PlatformFacts) → IsBook b → AgreesWith b ss a → AreFor platform ss → b.platform ≡ platform
one_platform sound b ss a platform is agrees are =
    let (us, read, audited) = agrees.audited in
    let good = is_sound sound b is in
    let some : 0 < length b.state.tree.nodes = some_there (λ (n : NodeFacts). (n.birth ≡ None) × (n.domain ≡ 0)) b.state.tree.nodes good.tree.tree.root in
    let less : 0 < length ss = omega (arith, some, audited.many, read.many) in
    sym (agrees.platform 0 (none_left platform) less) ∙ are 0 (none_left platform) less

pub two_audits : AuditsAgree → LegalIsSound → TwoAuditsAgree
two_audits agree sound platform b c ss ts a x is also agrees agrees' for_ss for_ts same calm calm' =
    let (us, read, audited) = agrees.audited in
    let (vs, read', audited') = agrees'.audited in
    let platforms : b.platform ≡ c.platform = one_platform sound b ss a platform is agrees for_ss ∙ sym (one_platform sound c ts x platform also agrees' for_ts) in
    let got : GotOneVerdict b c us vs =
    agree b c us vs a x is also platforms audited audited' (record { first = read_among ss ts us vs read read' same.first; second = read_among ts ss vs us read' read same.second }) calm calm' in
    record {
      ready = got.ready;
      answer = got.answer;
      known = λ k j d e r q less below home away knows knows'.
          let one : IsRead (get_or ss k d) (get_or us k d) = read.each k d less in
          let two : IsRead (get_or ts j e) (get_or vs j e) = read'.each j e below in
          got.known k j d e r q (omega (arith, less, read.many)) (omega (arith, below, read'.many)) (read_initial b (get_or ss k d) (get_or us k d) one home)
          (read_initial c (get_or ts j e) (get_or vs j e) two away) (read_known (get_or ss k d) (get_or us k d) _ one knows) (read_known (get_or ts j e) (get_or vs j e) _ two knows');
    }
