-- For the contracts of internal functions: a link that is read. Assumes nothing: this is a definition.
use Rattle.std.specs.Prelude.{◌≡◌, List, ℕ}
use Rattle.links.specs.Links.{begins, ends, one, other}
use Rattle.links.specs.declared.link.Link.{Link}

-- l has the four numbers of link i
pub record IsLink (t : List ℕ) (i : ℕ) (l : Link) : Type 0 where
  pub begin : l.begin ≡ begins t i
  pub end : l.end ≡ ends t i
  pub one : l.one ≡ one t i
  pub other : l.other ≡ other t i
