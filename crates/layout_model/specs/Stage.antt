-- The stages of a keeper: what its next turn is about.
--
-- At `Look` no rebuild is under way. `Ready`, `Copying` and `Reclaiming` are named by what the next turn does, and
-- each other stage by what was done last.
pub data Stage : Type 0 where
  Look : Stage
  Frozen : Stage
  Ready : Stage
  Opened : Stage
  Installed : Stage
  Copying : Stage
  Copied : Stage
  Reclaiming : Stage
