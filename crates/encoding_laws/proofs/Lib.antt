mod Facts
