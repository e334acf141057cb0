-- What a spanner holds while it grows a seed. Assumes nothing.
use Rattle.std.specs.Prelude.{List, vec_items}
use Rattle.span_laws.specs.declared.link.Link.{Link}
use Rattle.span.specs.declared.growing.Spanner.{Spanner}

-- The first links of the pins outside.
abbrev pub links_of : Spanner → List Link
links_of s = vec_items s.links.outside
