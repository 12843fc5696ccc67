-- Lemmas on lines.
mod Feeds
