use Rattle.std.proofs.Common.{◌≡◌, ◌<◌, ◌≤◌, List, [], ◌∷◌, ◌++◌, ◌+◌, length, sym, refl, ap, subst, arith}
use Rattle.std.proofs.lemmas.List.{length_push}
use Rattle.forest.specs.declared.Edge.{Edge}
use Rattle.forest.specs.Edges.{Fit, Sound, edge}
use Rattle.forest.proofs.Accepted.{accepted, sound_push}
use Rattle.forest.proofs.Heads.{room}
use Rattle.std.proofs.Math.Logic.{∥∥₁_map}
use Rattle.seed.specs.Ended.{Listed}
use Rattle.seed.specs.Labelled.{Labelled}
use Rattle.seed.specs.SeedValue.{SeedValue}
use Rattle.seed.proofs.store.Seed.accept.Goals as goal

pub push_reserved-requires : goal.push_reserved-requires
push_reserved-requires c =
    let s = c.self.inside in
    let f = subst (λ (x : SeedValue). Fit x.nodes x.edges (edge c.args.a c.args.b c.args.length)) (sym c.self.view_is) c.requires in
    let r : length s.edges.items < length s.labels.of.items = room (accepted (length s.labels.of.items) s.edges.items s.sound) c.args.a f.0 in
    omega (arith, r, s.edges.ok.0, s.few, s.room)

pub join-requires-2-clause-room : goal.join-requires-2-clause-room
join-requires-2-clause-room c =
    let s = c.self.inside in
    let f = subst (λ (x : SeedValue). Fit x.nodes x.edges (edge c.args.a c.args.b c.args.length)) (sym c.self.view_is) c.requires in
    let r : length s.edges.items < length s.labels.of.items = room (accepted (length s.labels.of.items) s.edges.items s.sound) c.args.a f.0 in
    omega (arith, r, s.paired, s.few)

pub invariant_of-self-inside : goal.invariant_of-self-inside
invariant_of-self-inside c =
    let s = c.self.inside in
    let n = length s.labels.of.items in
    let E = s.edges.items in
    let e : Edge = edge c.args.a c.args.b c.args.length in
    let q : c.push_reserved.new.self.items ≡ E ++ e ∷ [] = c.push_reserved.ensures.items in
    let f = subst (λ (x : SeedValue). Fit x.nodes x.edges (edge c.args.a c.args.b c.args.length)) (sym c.self.view_is) c.requires in
    let r : length E < n = room (accepted n E s.sound) c.args.a f.0 in
    let m = length c.join.new.self.of.items in
    let k : m ≡ n = c.join.ensures.count in
    let P : List Edge → Type 0 = λ D. Sound m D × (length D ≤ m) × Labelled D c.join.new.self.of.items in
    let h : P c.push_reserved.new.self.items =
    subst P (sym q) (rw k (sound_push n E e s.sound f), omega (arith, k, length_push E e, r), c.join.ensures.labels E e refl refl s.labelled)
    in
    let twice : length c.join-2.new.self.sorted.items ≡ length c.push_reserved.new.self.items + length c.push_reserved.new.self.items = omega (arith, c.join-2.ensures.count, s.paired, ap length q, length_push E e) in
    let listed : ∥ Listed c.push_reserved.new.self.items c.join-2.new.self.sorted.items ∥₁ = subst (λ D. ∥ Listed D c.join-2.new.self.sorted.items ∥₁) (sym q) (∥∥₁_map s.listed (c.join-2.ensures.listed E)) in
    (omega (arith, k, s.few), (omega (arith, c.push_reserved.ensures.capacity, s.room), (h.1, (h.0, (h.2, (twice, (listed, tt)))))))
