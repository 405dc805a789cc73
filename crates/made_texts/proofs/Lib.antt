mod Balls
