-- What callers need of books: that events leave the domains in their order, that each has its root,
-- that what is claimed is optimal where the claim is right, which claims are true, and by which
-- decision a domain has a verdict.
pub use Rattle.sysmem_alloc.proofs.Marked.{many_roots}
pub use Rattle.sysmem_alloc.proofs.Trees.{added, acted_roots, decided_roots, domains_there}
pub use Rattle.sysmem_alloc.proofs.Stepping.{claims_optimal}
pub use Rattle.sysmem_alloc.proofs.TrueClaims.{proved_is_true, true_has_proof, true_is_right}
pub use Rattle.sysmem_alloc.proofs.Still.{still_right}
pub use Rattle.sysmem_alloc.proofs.Split.{Gave, gave}
