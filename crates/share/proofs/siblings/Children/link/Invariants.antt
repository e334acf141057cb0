use Rattle.share.proofs.Linking.{Linked}
use Rattle.share.proofs.siblings.Children.link.Given as goal

abbrev pub invariant-loop-c : goal.invariant-loop-c
invariant-loop-c l = Linked l.table.rows l.c l.self.earlier.items l.self.last.items
