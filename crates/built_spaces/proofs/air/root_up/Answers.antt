use Rattle.built_spaces.specs.Root.{root_least, least_only, whole_root, next_root}
use Rattle.built_spaces.proofs.air.root_up.Goals as goal

pub returns-then-root-n : goal.returns-then-root-n
returns-then-root-n c =
    let least = whole_root c.args.n c.isqrt-root.result c.isqrt-root.ensures.square_le c.isqrt-root.ensures.next_square_gt c.if-root-n.true in
    record { value = least_only c.args.n _ _ least (root_least c.args.n); least = least }

pub returns-else-root-n : goal.returns-else-root-n
returns-else-root-n c =
    let least = next_root c.args.n c.isqrt-root.result c.isqrt-root.ensures.square_le c.isqrt-root.ensures.next_square_gt c.if-root-n.false in
    record { value = least_only c.args.n _ _ least (root_least c.args.n); least = least }
