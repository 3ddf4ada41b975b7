-- Coherency domains and sets of them.
use Rattle.std.specs.Prelude.{◌≡◌, ◌<◌, ℕ, List, codes, Bool, true, false}
use Rattle.sysmem_memory.specs.declared.domain.CoherencyDomain.{CoherencyDomain}
use Rattle.sysmem_memory.specs.declared.domain.CoherencyDomain.TheVariants.{Cpu, Ram, Inaccessible}
use Rattle.sysmem_memory.specs.declared.domain.CoherencyDomains.{CoherencyDomains}

-- a coherency domain's name in a script and in a report
abbrev pub domain_name : CoherencyDomain → List ℕ
domain_name Cpu = codes "cpu"
domain_name Ram = codes "ram"
domain_name Inaccessible = codes "inaccessible"

-- the set has the domain
abbrev pub has_domain : CoherencyDomains → CoherencyDomain → Bool
has_domain s Cpu = s.cpu
has_domain s Ram = s.ram
has_domain s Inaccessible = s.inaccessible

-- the domain's place in the order cpu, ram, inaccessible
abbrev pub rank : CoherencyDomain → ℕ
rank Cpu = 0
rank Ram = 1
rank Inaccessible = 2

-- the domain is the set's, and none that comes before it is
pub record IsFirstDomain (s : CoherencyDomains) (d : CoherencyDomain) : Type 0 where
  pub has : has_domain s d ≡ true
  pub before : (e : CoherencyDomain) → rank e < rank d → has_domain s e ≡ false
