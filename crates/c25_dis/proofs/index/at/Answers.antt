use Rattle.std.proofs.Common.{◌≤◌, rules}
use Rattle.std.proofs.lemmas.Fn.{always_returns_same}
use Rattle.std.proofs.lemmas.List.Sorted.{IsPartitionedBy-leb, IsPartitionedBy-ltb}
use Rattle.c25_dis.specs.declared.index.IndexEntry.{IndexEntry}
use Rattle.c25_dis.proofs.Ordered.{Ends, IsBelow, IsUpTo, cut_out, in_order}
use Rattle.c25_dis.proofs.index.at.Goals as goal

pub slice_bounds-result-count : goal.slice_bounds-result-count
slice_bounds-result-count c =
    let xs = c.args.index.now in
    let place = c.args.place in
    let below : Ends (IsBelow place) xs c.partition_point-from.result =
    c.partition_point-from.ensures.partitioned (IsBelow place) (always_returns_same _ _ _ (λ a r g h. search rules)) (IsPartitionedBy-ltb (λ (x : IndexEntry). x.place) xs place c.requires) in
    let up : Ends (IsUpTo place) xs c.partition_point-end.result =
    c.partition_point-end.ensures.partitioned (IsUpTo place) (always_returns_same _ _ _ (λ a r g h. search rules)) (IsPartitionedBy-leb (λ (x : IndexEntry). x.place) xs place c.requires) in
    in_order place xs c.partition_point-from.result c.partition_point-end.result c.partition_point-from.ensures.bound c.partition_point-end.ensures.bound below up

pub slice_bounds-result-start : goal.slice_bounds-result-start
slice_bounds-result-start c =
    let le : c.partition_point-from.result ≤ c.partition_point-end.result = slice_bounds-result-count c in
    search rules

pub returns : goal.returns
returns c =
    let xs = c.args.index.now in
    let place = c.args.place in
    let below : Ends (IsBelow place) xs c.partition_point-from.result =
    c.partition_point-from.ensures.partitioned (IsBelow place) (always_returns_same _ _ _ (λ a r g h. search rules)) (IsPartitionedBy-ltb (λ (x : IndexEntry). x.place) xs place c.requires) in
    let up : Ends (IsUpTo place) xs c.partition_point-end.result =
    c.partition_point-end.ensures.partitioned (IsUpTo place) (always_returns_same _ _ _ (λ a r g h. search rules)) (IsPartitionedBy-leb (λ (x : IndexEntry). x.place) xs place c.requires) in
    let le = in_order place xs c.partition_point-from.result c.partition_point-end.result c.partition_point-from.ensures.bound c.partition_point-end.ensures.bound below up in
    cut_out place xs c.partition_point-from.result c.partition_point-end.result le c.partition_point-end.ensures.bound below up
