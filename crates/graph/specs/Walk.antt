-- Walks over an edge relation, with a condition on their inner jobs; the two lemmas that carry the bounded memory.
--
-- `Via E P p q` is a walk along E from p to q whose inner jobs, those between its ends, all meet P. A circle is a walk from
-- a job back to itself, with no condition. In order: walks joined; `cut` at a job that P gains; `into` a job that gains edges;
-- `passes`: where a walk meets that job; `split` and `merge`: inner jobs of two sorts, a walk of walks.
-- Assumes nothing.
use Rattle.std.specs.Prelude.{◌≡◌, refl, ◌⊎◌}
use Rattle.std.proofs.Common.{sym, subst, inl, inr, ⊎_elim}

pub data Via {J : Type 0} (E : J → J → Type 0) (P : J → Type 0) : J → J → Type 0 where
  one : {p q : J} → E p q → Via E P p q
  step : {p m q : J} → E p m → P m → Via E P m q → Via E P p q

abbrev pub Any : {J : Type 0} → J → Type 0
Any j = Unit {0}

-- a circle: a chain of edges back to its start
abbrev pub Circle : {J : Type 0} → (J → J → Type 0) → Type 0
Circle {J} E = (z : J) × Via E Any z z

module _ {J : Type 0} where
  -- the same walk, read over other edges and another condition
  pub carry : {E F : J → J → Type 0} {P Q : J → Type 0} → ((a b : J) → E a b → F a b) → ((a : J) → P a → Q a) → {p q : J} → Via E P p q → Via F Q p q
  carry f g (one {p = p} {q = q} e) = one (f p q e)
  carry f g (step {p = p} {m = m} e h w) = step (f p m e) (g m h) (carry f g w)

  -- two walks end to end
  pub join : {E : J → J → Type 0} {P : J → Type 0} {p m q : J} → Via E P p m → P m → Via E P m q → Via E P p q
  join (one e) h v = step e h v
  join (step e k w) h v = step e k (join w h v)

  -- the same walk under a weaker condition
  pub relax : {E : J → J → Type 0} {P Q : J → Type 0} → ((a : J) → P a → Q a) → {p q : J} → Via E P p q → Via E Q p q
  relax g w = carry (λ a b e. e) g w

  -- where the condition gains one job k, a walk is an old one, or two old ones that meet at k
  module _ {E : J → J → Type 0} {P : J → Type 0} {k : J} where
    pub cut : {p q : J} → Via E (λ m. P m ⊎ (m ≡ k)) p q → Via E P p q ⊎ (Via E P p k × Via E P k q)
    cut (one e) = inl (one e)
    cut {p} {q} (step e (inl h) w) = ⊎_elim (λ v. inl (step e h v)) (λ v. inr (step e h v.0, v.1)) (cut w)
    cut {p} {q} (step e (inr i) w) =
        inr (subst (λ (x : J). Via E P p x) i (one e), ⊎_elim (λ v. subst (λ (x : J). Via E P x q) i v) (λ v. v.1) (cut w))

    pub uncut : {p q : J} → Via E P p q ⊎ (Via E P p k × Via E P k q) → Via E (λ m. P m ⊎ (m ≡ k)) p q
    uncut (inl w) = relax (λ a h. inl h) w
    uncut (inr w) = join (relax (λ a h. inl h) w.0) (inr refl) (relax (λ a h. inl h) w.1)

  -- edges that all point into one job j, from the jobs of N, are added to E
  module _ {E F : J → J → Type 0} {N : J → Type 0} {j : J} (new : (a b : J) → F a b → E a b ⊎ ((b ≡ j) × N a)) where
    -- a walk that does not pass j inside is an old one, or ends at j with its last edge new
    pub into : {P : J → Type 0} → (P j → ⊥) → {p q : J} → Via F P p q → Via E P p q ⊎ ((q ≡ j) × (N p ⊎ ((m : J) × Via E P p m × P m × N m)))
    into {P} closed (one {p = p} {q = q} e) = ⊎_elim (λ old. inl (one old)) (λ fresh. inr (fresh.0, inl fresh.1)) (new p q e)
    into {P} closed (step {p = p} {m = m} e h w) =
        ⊎_elim
        (λ old. ⊎_elim (λ v. inl (step old h v)) (λ v. inr (v.0, ⊎_elim (λ n. inr (m, one old, h, n)) (λ n. inr (n.0, step old h n.1, n.2, n.3)) v.1)) (into closed w))
        (λ fresh. absurd (closed (subst P fresh.0 h)))
        (new p m e)

    -- a walk is an old one, or it meets j
    pub passes : {p q : J} → Via F Any p q → Via E Any p q ⊎ (Via F Any p j × ((j ≡ q) ⊎ Via F Any j q))
    passes (one {p = p} {q = q} e) = ⊎_elim (λ old. inl (one old)) (λ fresh. inr (subst (λ (x : J). Via F Any p x) fresh.0 (one e), inl (sym fresh.0))) (new p q e)
    passes (step {p = p} {m = m} {q = q} e h w) =
        ⊎_elim
        (λ old. ⊎_elim (λ v. inl (step old tt v)) (λ v. inr (step e tt v.0, v.1)) (passes w))
        (λ fresh. inr (subst (λ (x : J). Via F Any p x) fresh.0 (one e), inr (subst (λ (x : J). Via F Any x q) fresh.0 w)))
        (new p m e)

    -- so a circle is an old one, or one from j back to j
    pub circle_passes : Circle F → Circle E ⊎ Via F Any j j
    circle_passes c = ⊎_elim (λ old. inl (c.0, old)) (λ v. inr (⊎_elim (λ i. subst (λ (x : J). Via F Any x j) (sym i) v.0) (λ u. join u tt v.0) v.1)) (passes c.1)

  -- inner jobs of two sorts: a walk of P-walks that meet at Q-jobs
  module _ {E : J → J → Type 0} {P Q : J → Type 0} where
    pub split : {p q : J} → Via E (λ m. P m ⊎ Q m) p q → Via (Via E P) Q p q
    split (one e) = one (one e)
    split (step {p = p} {m = m} {q = q} e (inr h) w) = step (one e) h (split w)
    split (step {p = p} {m = m} {q = q} e (inl h) w) = lengthen (split w)
      where
        lengthen : Via (Via E P) Q m q → Via (Via E P) Q p q
        lengthen (one v) = one (step e h v)
        lengthen (step v k u) = step (step e h v) k u

    pub merge : {p q : J} → Via (Via E P) Q p q → Via E (λ m. P m ⊎ Q m) p q
    merge (one v) = relax (λ a h. inl h) v
    merge (step v k u) = join (relax (λ a h. inl h) v) (inr k) (merge u)
