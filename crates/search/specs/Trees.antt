-- What a search has reached: a tree of arcs with room, from its root. Assumes nothing: these are definitions.
use Rattle.std.specs.Prelude.{◌≡◌, ℕ, ◌<◌, ◌≤◌, ◌⊎◌, List, [], ◌∷◌, ◌++◌, length, pos, ◌≤ℤ◌, ◌<ℤ◌, Some, None, Option, slice_index, slice_index_or, slice_set}
use Rattle.graph.specs.Few.{few_places}
use Rattle.search.specs.declared.search.Search.{Search}
use Rattle.search.specs.Standing.{none_reached, place_in, Standing}
use Rattle.search.specs.Residuals.{Scene, net, step, Open, room_at}

-- how many places were reached
abbrev pub count : Search → ℕ
count s = length s.reached.items

-- the k-th place that was reached, and for a place that was reached: where it stands among them, the arc that led there, and how much can be sent there
abbrev pub at : Search → ℕ → ℕ
at s k = place_in s.reached.items k

abbrev pub slot : Search → ℕ → ℕ
slot s i = slice_index s.slots.items i

abbrev pub parent : Search → ℕ → ℕ
parent s i = (slice_index_or s.reached.items (slot s i) none_reached).arc

abbrev pub reach : Search → ℕ → ℕ
reach s i = (slice_index_or s.reached.items (slot s i) none_reached).amount

-- there are as many slots as n places
abbrev pub Sized : (n : ℕ) (s : Search) → Type 0
Sized n s = length s.slots.items ≡ n

-- what was reached and the slots lie in the value itself, and take no memory from the heap
pub record Inline (s : Search) : Type 0 where
  pub reached : s.reached.capacity ≡ few_places
  pub slots : s.slots.capacity ≡ few_places

-- there are no slots yet, nothing was reached, and no memory was asked for
pub record Fresh (s : Search) : Type 0 where
  pub none : s.reached.items ≡ []
  pub slots : s.slots.items ≡ []
  pub inline : Inline s

-- a place was reached
abbrev pub Seen : Search → ℕ → Type 0
Seen s i = (k : ℕ) × (k < count s) × (at s k ≡ i)

-- the places that were reached are places, no more than there are, and each slot says where its place stands
abbrev pub Ordered : (n : ℕ) (s : Search) → Type 0
Ordered n s = Standing n s.reached.items s.slots.items

-- a place more was written down, with the arc that led there and how much can be sent there
pub record Added (s t : Search) (place arc amount : ℕ) : Type 0 where
  pub reached : t.reached.items ≡ s.reached.items ++ record { place = place; arc = arc; amount = amount } ∷ []
  pub slots : t.slots.items ≡ slice_set s.slots.items place (count s)

-- arc e led to the k-th place, from a place before it, and has room for what can be sent there, which is no more than can be sent to that place
pub record Led (v : Scene) (s : Search) (k e : ℕ) : Type 0 where
  pub arc : e < (net v).arcs
  pub to : ((net v).arc e).to ≡ at s k
  pub earlier : slot s ((net v).arc e).from < k
  pub from : at s (slot s ((net v).arc e).from) ≡ ((net v).arc e).from
  pub room : reach s (at s k) ≤ room_at v e
  pub chain : reach s (at s k) ≤ reach s ((net v).arc e).from

-- a tree of open places in the order in which they were reached, from its root, which is the first of them; something can be sent to each
pub record Tree (v : Scene) (s : Search) : Type 0 where
  pub some : 1 ≤ count s
  pub sized : Sized v.places s
  pub ordered : Ordered v.places s
  pub opened : (k : ℕ) → k < count s → Open v (at s k)
  pub sent : (k : ℕ) → k < count s → 1 ≤ reach s (at s k)
  pub led : (k : ℕ) → k < count s → 1 ≤ k → Led v s k (parent s (at s k))

-- no sink was reached
abbrev pub Quiet : Scene → Search → Type 0
Quiet v s = (k : ℕ) → k < count s → step v (at s k) ≤ℤ pos 0

-- an arc with room to an open place leads to a place that was reached
abbrev pub Followed : Scene → Search → ℕ → Type 0
Followed v s e = 0 < room_at v e → Open v ((net v).arc e).to → Seen s ((net v).arc e).to

-- so do all arcs of place i
abbrev pub FollowedFrom : Scene → Search → (i : ℕ) → Type 0
FollowedFrom v s i = (e : ℕ) → e < (net v).arcs → ((net v).arc e).from ≡ i → Followed v s e

-- some arcs of place i are left to be looked along; all others of it were followed
pub record Left (v : Scene) (s : Search) (i : ℕ) (left : List ℕ) : Type 0 where
  pub leaves : (k : ℕ) → k < length left → (slice_index left k < (net v).arcs) × (((net v).arc (slice_index left k)).from ≡ i)
  pub others :
      (e : ℕ) → e < (net v).arcs → ((net v).arc e).from ≡ i → Followed v s e ⊎ ((k : ℕ) × (k < length left) × (slice_index left k ≡ e))

-- so do all arcs of the first n places that were reached
abbrev pub Explored : Scene → Search → ℕ → Type 0
Explored v s n = (k : ℕ) → k < n → FollowedFrom v s (at s k)

-- what was reached stays, and more may come
pub record Grown (s t : Search) : Type 0 where
  pub longer : count s ≤ count t
  pub kept : (k : ℕ) → k < count s → at t k ≡ at s k

-- a sink was reached
pub record Sink (v : Scene) (s : Search) (p : ℕ) : Type 0 where
  pub seen : Seen s p
  pub place : p < v.places
  pub wanted : pos 0 <ℤ step v p

-- after a part of a search: the tree has grown
pub record Went (v : Scene) (s t : Search) : Type 0 where
  pub tree : Tree v t
  pub grown : Grown s t

-- what a part of a search answers: a sink that was reached, or that none was, and then what has been done
abbrev pub Found : Scene → Search → (done : Type 0) → Option ℕ → Type 0
Found v t done None = Quiet v t × done
Found v t done (Some p) = Sink v t p
