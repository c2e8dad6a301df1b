-- The phases of a group: where the new keys of its stretch go.
--
-- `Open`: into its own buffer. `Frozen`: nowhere. `Opened`: into the buffers of the new groups.
pub data Phase : Type 0 where
  Open : Phase
  Frozen : Phase
  Opened : Phase
